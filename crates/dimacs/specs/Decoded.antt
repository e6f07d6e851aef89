-- DIMACS CNF read back: what a reader of the text finds in it.
use Rattle.std.specs.Prelude.{Bool, true, false, cond, ◌≡◌, ℕ, ◌+◌, ◌-◌, ◌*◌, ◌≤◌, eqb, leb, ℤ, pos, neg_ℤ, length, drop}
use mathlib.Core.List.{List, [], ◌∷◌, Memᴰ}
use Rattle.unfolding.specs.Clauses.{Literal, Clause, variable_of, signed_words}
use Rattle.dimacs.specs.Text.{dimacs_text}

-- The numbers of a text, each ended by a space or a line's end: whether a minus sign stands before this one, and its digits so far.
unfoldable pub numbers : Bool → ℕ → List ℕ → List ℤ
numbers minus n [] = []
numbers minus n (b ∷ bs) =
    cond (eqb b 45) (numbers true 0 bs)
    (cond (leb 48 b) (numbers minus (n * 10 + (b - 48)) bs)
    (cond minus (neg_ℤ (pos n)) (pos n) ∷ numbers false 0 bs))

-- What stands behind `p cnf `: the number of variables, the number of clauses, the words of the clauses.
unfoldable pub read_dimacs : List ℕ → List ℤ
read_dimacs text = numbers false 0 (drop 6 text)

-- The text of clauses without a variable 0, read back.
abbrev pub TextIsRead : Type 0
TextIsRead = (variables : ℕ) (cs : List Clause) → ((c : Clause) → Memᴰ c cs → (l : Literal) → Memᴰ l c → 1 ≤ variable_of l)
    → read_dimacs (dimacs_text variables cs) ≡ pos variables ∷ pos (length cs) ∷ signed_words cs
