-- Models of clauses, their cuts, and what demand 3 says of them.
use Rattle.std.specs.Prelude.{Bool, true, not, ◌&&◌, List, ◌≡◌, ℕ, suc, ◌≤◌, ltb}
use Rattle.lists.specs.Lists.{all, any}
use Rattle.asp.specs.Program.{Program, State}
use Rattle.asp.specs.StableModel.{StableModel}
use Rattle.unfolding.specs.Unfolded.{unfolded}
use Rattle.unfolding.specs.Clauses.{Literal, positive, negative, Clause, clauses, variables}

-- Each variable is true or false.
abbrev pub Assignment : Type 0
Assignment = ℕ → Bool

-- -v is true when v is false.
unfoldable pub value : Assignment → Literal → Bool
value M (positive v) = M v
value M (negative v) = not (M v)

-- Every clause has a true literal.
unfoldable pub is_model : Assignment → List Clause → Bool
is_model M cs = all (any (value M)) cs

-- The cut: the atoms a below n whose variable a + 1 is true.
unfoldable pub projection : ℕ → Assignment → State
projection n M a = ltb a n && M (suc a)

-- The clauses of a program and a sequence, and the number of their variables.
unfoldable pub clauses_of : Program → List ℕ → List Clause
clauses_of P s = clauses (unfolded P s)

unfoldable pub variables_of : Program → List ℕ → ℕ
variables_of P s = variables (unfolded P s)

-- Demand 3: the models of the clauses, cut to the program's atoms, are exactly the stable models, one model for each.
pub record Faithful (P : Program) (s : List ℕ) : Type 0 where
  -- Every model cuts to a stable model.
  pub projects : (M : Assignment) → is_model M (clauses_of P s) ≡ true → StableModel P (projection P.atoms M)
  -- Every stable model is the cut of some model.
  pub lifts : (X : State) → StableModel P X → (M : Assignment) × (is_model M (clauses_of P s) ≡ true) × (projection P.atoms M ≡ X)
  -- Two models with the same cut agree on every variable.
  pub one_each : (M M' : Assignment) → is_model M (clauses_of P s) ≡ true → is_model M' (clauses_of P s) ≡ true
      → projection P.atoms M ≡ projection P.atoms M' → (v : ℕ) → 1 ≤ v → v ≤ variables_of P s → M v ≡ M' v
