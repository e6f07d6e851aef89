-- The clauses of an unfolded program: its completion, in document 01's order ("Clauses"), and their signed words.
use mathlib.Core.List.{List, [], ◌∷◌, ◌++◌, map, flat_map}
use Rattle.std.specs.Prelude.{ℕ, zero, suc, ◌+◌, ℤ, pos, negsuc, neg_ℤ, length}
use Rattle.lists.specs.Lists.{range}
use Rattle.asp.specs.Program.{Body}
use Rattle.unfolding.specs.Unfolded.{Copy, Unfolded}

-- A literal: a variable, or its negation.
pub data Literal : Type 0 where
  positive negative : ℕ → Literal

-- Its variable.
unfoldable pub variable_of : Literal → ℕ
variable_of (positive v) = v
variable_of (negative v) = v

-- The opposite literal.
unfoldable pub negated : Literal → Literal
negated (positive v) = negative v
negated (negative v) = positive v

-- A clause: some literal is true.
abbrev pub Clause : Type 0
Clause = List Literal

-- The body's literals, positives first.
unfoldable pub literals : Body → List Literal
literals b = map positive b.pos ++ map negative b.neg

-- For the rule variable d of a rule for h: h and -d; for each body literal v, -d and v; d with every body literal negated.
unfoldable pub rule_clauses : ℕ → ℕ → Body → List Clause
rule_clauses h d b =
    (positive h ∷ negative d ∷ [])
    ∷ (map (λ l. negative d ∷ l ∷ []) (literals b) ++ ((positive d ∷ map negated (literals b)) ∷ []))

-- The same for the rules of h, their variables counted on from d.
unfoldable pub rules_clauses : ℕ → ℕ → List Body → List Clause
rules_clauses h d [] = []
rules_clauses h d (b ∷ bs) = rule_clauses h d b ++ rules_clauses h (suc d) bs

-- For a copy h whose rule variables start at d: -h with all its rule variables, then its rules' clauses.
unfoldable pub copy_clauses : ℕ → Copy → List Clause
copy_clauses d c = (negative c.var ∷ map positive (range d (length c.kept))) ∷ rules_clauses c.var d c.kept

-- The same for copies, the rule variables counted on.
unfoldable pub copies_clauses : ℕ → List Copy → List Clause
copies_clauses d [] = []
copies_clauses d (c ∷ cs) = copy_clauses d c ++ copies_clauses (d + length c.kept) cs

-- A constraint: its body negated.
unfoldable pub constraint_clause : Body → Clause
constraint_clause b = map negated (literals b)

-- All clauses. Rule variables come after the t copies.
unfoldable pub clauses : Unfolded → List Clause
clauses U = copies_clauses (suc (length U.copies)) U.copies ++ map constraint_clause U.constraints

-- The number of variables: t and the kept rules of all copies.
unfoldable pub variables : Unfolded → ℕ
variables U = length U.copies + length (flat_map (λ c. c.kept) U.copies)

-- The literal as a signed word.
unfoldable pub signed : Literal → ℤ
signed (positive v) = pos v
signed (negative v) = neg_ℤ (pos v)

-- Each clause ends in 0.
unfoldable pub clause_words : Clause → List ℤ
clause_words c = map signed c ++ (pos 0 ∷ [])

-- The words of clauses, one behind the other.
unfoldable pub signed_words : List Clause → List ℤ
signed_words cs = flat_map clause_words cs

-- Words read as clauses: split at 0.
unfoldable pub in_front : Literal → List Clause → List Clause
in_front l [] = (l ∷ []) ∷ []
in_front l (c ∷ cs) = (l ∷ c) ∷ cs

unfoldable pub read_word : ℤ → List Clause → List Clause
read_word (pos zero) cs = [] ∷ cs
read_word (pos (suc v)) cs = in_front (positive (suc v)) cs
read_word (negsuc v) cs = in_front (negative (suc v)) cs

unfoldable pub read_words : List ℤ → List Clause
read_words [] = []
read_words (z ∷ zs) = read_word z (read_words zs)
