-- How large the clauses of an unfolded program are.
use Rattle.std.specs.Prelude.{◌≡◌, length}
use Rattle.unfolding.specs.Unfolded.{Unfolded}
use Rattle.unfolding.specs.Clauses.{clauses, variables, signed_words}
use Rattle.clause_sizes.specs.declared.Numbers.{Numbers}

-- How many words, variables and clauses there are.
pub record NumbersOf (U : Unfolded) (r : Numbers) : Type 0 where
  pub words : r.words ≡ length (signed_words (clauses U))
  pub variables : r.variables ≡ variables U
  pub clauses : r.clauses ≡ length (clauses U)
