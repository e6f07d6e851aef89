-- The words of the clauses of a copy and its rules, and what its emitter promises.
use Rattle.std.specs.Prelude.{List, ◌∷◌, map, ◌≡◌, ℕ, ◌+◌, ◌-◌, ◌≤◌, ◌<◌, ℤ, length}
use Rattle.lists.specs.Lists.{range}
use Rattle.unfolding.specs.Unfolded.{last}
use Rattle.unfolding.specs.Clauses.{positive, negative, rules_clauses, copy_clauses, signed, clause_words, signed_words}
use Rattle.writer.specs.inner.Wrote.{Wrote}
use Rattle.copies.specs.inner.Tables.{Values}
use Rattle.copies.specs.inner.Bodies.{bodies_by}
use Rattle.copies.specs.inner.Kept.{Inside}
use Rattle.rule_clauses.specs.inner.Literals.{SmallVariables}
use Rattle.copy_clauses.specs.declared.Ends.{Ends}

-- The words of the clauses of the rules for h at the entries that are listed; their variables are counted on from d.
unfoldable pub rules_words : List ℕ → List ℕ → List ℕ → ℕ → ℕ → List ℕ → List ℤ
rules_words t p vars h d listed = signed_words (rules_clauses h d (bodies_by t p vars listed))

-- The literals from .. to - 1.
unfoldable pub numbers_words : ℕ → ℕ → List ℤ
numbers_words from to = map signed (map positive (range from (to - from)))

-- The words of the clause of -h and the k literals d, d + 1 and on.
unfoldable pub first_words : ℕ → ℕ → ℕ → List ℤ
first_words h d k = clause_words (negative h ∷ map positive (range d k))

-- The words of the clauses of a copy with the rules at the entries that are listed; their variables are counted on from d.
unfoldable pub copy_clause_words : List ℕ → List ℕ → List ℕ → ℕ → ℕ → List ℕ → List ℤ
copy_clause_words t p vars d var listed = signed_words (copy_clauses d (record { atom = 0; var = var; kept = bodies_by t p vars listed }))

-- What the emitter of a copy asks for.
pub record CopyReady (t p vars lasts : List ℕ) (c : Ends) (v : ℕ) (listed : List ℕ) (out : List ℤ) : Type 0 where
  pub small : SmallVariables vars
  pub by_last : Values last lasts
  pub inside : Inside listed
  pub var : v < 2147483648
  pub rule : c.rule < 1000000
  pub room : c.at + length (copy_clause_words t p vars c.rule v listed) ≤ length out

-- A copy's clauses are written, and the next rule's variable comes behind.
pub record CopyPut (t p vars : List ℕ) (c : Ends) (v : ℕ) (listed : List ℕ) (old new : List ℤ) (to : Ends) : Type 0 where
  pub wrote : Wrote old c.at (copy_clause_words t p vars c.rule v listed) new to.at
  pub rule : to.rule ≡ c.rule + length listed
