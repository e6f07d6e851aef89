-- The words of an unfolded program read back. They do not tell a copy's atom.
use Rattle.std.specs.Prelude.{List, [], ◌∷◌, map, ℕ, zero, suc, get_or, take, drop}
use Rattle.asp.specs.Program.{Body}
use Rattle.unfolding.specs.Unfolded.{Copy, Unfolded}

-- The word at an index.
abbrev pub word : List ℕ → ℕ → ℕ
word ws i = get_or ws i 0

-- p, the number of negatives, then the variables; and what follows them.
unfoldable pub read_body : List ℕ → Body
read_body ws = record { pos = take (word ws 0) (drop 2 ws); neg = take (word ws 1) (drop (word ws 0) (drop 2 ws)) }

unfoldable pub after_body : List ℕ → List ℕ
after_body ws = drop (word ws 1) (drop (word ws 0) (drop 2 ws))

-- So many bodies, and what follows them.
unfoldable pub read_bodies : ℕ → List ℕ → List Body
read_bodies zero ws = []
read_bodies (suc k) ws = read_body ws ∷ read_bodies k (after_body ws)

unfoldable pub after_bodies : ℕ → List ℕ → List ℕ
after_bodies zero ws = ws
after_bodies (suc k) ws = after_bodies k (after_body ws)

-- So many copies, each its variable, the number of its rules and those; and what follows them.
unfoldable pub read_copies : ℕ → List ℕ → List Copy
read_copies zero ws = []
read_copies (suc k) ws = record { atom = 0; var = word ws 0; kept = read_bodies (word ws 1) (drop 2 ws) } ∷ read_copies k (after_bodies (word ws 1) (drop 2 ws))

unfoldable pub after_copies : ℕ → List ℕ → List ℕ
after_copies zero ws = ws
after_copies (suc k) ws = after_copies k (after_bodies (word ws 1) (drop 2 ws))

-- The number of constraints, and those.
unfoldable pub read_constraints : List ℕ → List Body
read_constraints ws = read_bodies (word ws 0) (drop 1 ws)

unfoldable pub read_unfolded : List ℕ → Unfolded
read_unfolded ws = record { copies = read_copies (word ws 0) (drop 1 ws); constraints = read_constraints (after_copies (word ws 0) (drop 1 ws)) }

-- The unfolded program without its copies' atoms.
unfoldable pub nameless : Unfolded → Unfolded
nameless U = record { copies = map (λ c. record { atom = 0; var = c.var; kept = c.kept }) U.copies; constraints = U.constraints }

-- Copies that are read back, with the entries that they are copies of: one copy for each, in their order.
unfoldable pub named : List ℕ → List Copy → List Copy
named [] cs = []
named (a ∷ s) [] = []
named (a ∷ s) (c ∷ cs) = record { atom = a; var = c.var; kept = c.kept } ∷ named s cs
