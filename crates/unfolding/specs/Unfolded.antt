-- The unfolded program of a program and a sequence, its words, and what a positive loop is ("Unfolding" of document 01).
use Rattle.std.specs.Prelude.{Bool, true, false, not, ◌&&◌, ◌||◌, cond, ◌≡◌, ℕ, suc, ◌+◌, eqb, ltb, length}
use mathlib.Core.List.{List, [], ◌∷◌, ◌++◌, map, flat_map}
use Rattle.lists.specs.Lists.{all, any, filter, member}
use Rattle.asp.specs.Program.{Body, Rule, Program}
use Rattle.unfolding.specs.Graph.{same_component}

-- One copy of an atom: its variable and the bodies of the rules kept for it, over variables.
pub record Copy : Type 0 where
  pub atom : ℕ
  pub var : ℕ
  pub kept : List Body

-- The unfolded program: the copies in sequence order, and the constraints over variables.
pub record Unfolded : Type 0 where
  pub copies : List Copy
  pub constraints : List Body

-- The variable of an atom's last copy.
unfoldable pub last : ℕ → ℕ
last a = suc a

-- The variable of the atom's latest copy among those made so far, the latest of which stands first (0 where it has none).
unfoldable pub latest : List Copy → ℕ → ℕ
latest [] b = 0
latest (c ∷ past) b = cond (eqb c.atom b) c.var (latest past b)

-- The atom's latest copy so far kept a rule (no where it has none).
unfoldable pub latest_keeps : List Copy → ℕ → Bool
latest_keeps [] b = false
latest_keeps (c ∷ past) b = cond (eqb c.atom b) (ltb 0 (length c.kept)) (latest_keeps past b)

-- A rule for a is dropped where the latest copy so far of a positive atom of a's component kept no rule, just as where there is no copy.
unfoldable pub usable : Program → List Copy → ℕ → ℕ → Bool
usable P past a b = not (same_component P a b) || latest_keeps past b

-- What stands for a positive atom in a rule for a: its latest copy so far in a's component, its last copy in another.
unfoldable pub replaced : Program → List Copy → ℕ → ℕ → ℕ
replaced P past a b = cond (same_component P a b) (latest past b) (last b)

-- The body with its positive atoms replaced so, and its negative atoms by their last copies.
unfoldable pub renamed : (ℕ → ℕ) → Body → Body
renamed f b = record { pos = map f b.pos; neg = map last b.neg }

-- The rule is kept for a copy of a.
unfoldable pub is_kept : Program → List Copy → ℕ → Rule → Bool
is_kept P past a r = eqb r.head a && all (usable P past a) r.body.pos

-- The rules kept for a copy of a, in sheet order, over variables.
unfoldable pub kept_for : Program → List Copy → ℕ → List Body
kept_for P past a = map (λ r. renamed (replaced P past a) r.body) (filter (is_kept P past a) P.rules)

-- A copy's variable: the last copy of a is a + 1; the others are n + 1, n + 2 and on, where e of them are made.
unfoldable pub variable : Program → ℕ → ℕ → Bool → ℕ
variable P e a more = cond more (P.atoms + suc e) (last a)

-- The copies of a sequence behind those made so far, e of which are not their atom's last.
unfoldable pub copies_from : Program → ℕ → List Copy → List ℕ → List Copy
copies_from P e past [] = []
copies_from P e past (a ∷ s) =
    let c : Copy = record { atom = a; var = variable P e a (member a s); kept = kept_for P past a } in
    c ∷ copies_from P (cond (member a s) (suc e) e) (c ∷ past) s

-- Constraints use last copies.
unfoldable pub unfolded : Program → List ℕ → Unfolded
unfolded P s = record { copies = copies_from P 0 [] s; constraints = map (renamed last) P.constraints }

-- The words: p, the number of negatives, then the variables, positives first.
unfoldable pub body_words : Body → List ℕ
body_words b = length b.pos ∷ length b.neg ∷ (b.pos ++ b.neg)

-- A copy: its variable, the number of rules kept, and those.
unfoldable pub copy_words : Copy → List ℕ
copy_words c = c.var ∷ length c.kept ∷ flat_map body_words c.kept

-- t, the copies, the number of constraints, and those.
unfoldable pub words : Unfolded → List ℕ
words U = length U.copies ∷ (flat_map copy_words U.copies ++ (length U.constraints ∷ flat_map body_words U.constraints))

-- u stands in a positive body of a rule for v.
unfoldable pub needs : Unfolded → ℕ → ℕ → Bool
needs U v u = any (λ c. eqb c.var v && any (λ b. member u b.pos) c.kept) U.copies

-- u is reached from v along positive bodies.
pub data Leads (U : Unfolded) : ℕ → ℕ → Type 0 where
  step : {v u : ℕ} → needs U v u ≡ true → Leads U v u
  onwards : {v u w : ℕ} → needs U v u ≡ true → Leads U u w → Leads U v w

-- No variable reaches itself along positive bodies.
abbrev pub NoPositiveLoop : Unfolded → Type 0
NoPositiveLoop U = (v : ℕ) → Leads U v v → ⊥
