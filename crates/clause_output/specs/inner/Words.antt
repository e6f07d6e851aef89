-- The words of the clauses of all copies, and of the constraints, and what the emitter of the copies asks for.
use Rattle.std.specs.Prelude.{List, map, ℕ, suc, ◌-◌, ◌≤◌, ℤ, length}
use Rattle.lists.specs.Lists.{range}
use Rattle.unfolding.specs.Unfolded.{Unfolded, last}
use Rattle.unfolding.specs.Clauses.{copies_clauses, constraint_clause, signed_words}
use Rattle.copies.specs.inner.Tables.{Values}
use Rattle.copies.specs.inner.Bodies.{entry_body}

-- The words of the clauses of all copies.
unfoldable pub copies_clause_words : Unfolded → List ℤ
copies_clause_words U = signed_words (copies_clauses (suc (length U.copies)) U.copies)

-- The words of the clauses of the constraints at the entries from .. to - 1.
unfoldable pub backs_words : List ℕ → List ℕ → List ℕ → ℕ → ℕ → List ℤ
backs_words t p vars from to = signed_words (map constraint_clause (map (entry_body t p vars) (range from (to - from))))

-- What the emitter of the copies asks for.
pub record CopiesReady (U : Unfolded) (lasts : List ℕ) (out : List ℤ) : Type 0 where
  pub by_last : Values last lasts
  pub room : length (copies_clause_words U) ≤ length out
