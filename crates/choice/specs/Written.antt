-- States over the written atoms of a program, whose fresh atoms come behind them, and demand 3 over the written atoms (document 02, W1).
use Rattle.std.specs.Prelude.{true, ◌&&◌, List, ◌≡◌, ℕ, ◌≤◌, ltb}
use Rattle.asp.specs.Program.{Program, State}
use Rattle.asp.specs.StableModel.{StableModel}
use Rattle.asp.specs.AnswerSet.{IsAnswerSet}
use Rattle.unfolding.specs.Faithful.{Assignment, is_model, projection, clauses_of, variables_of}

-- The cut of a state: its atoms below n.
unfoldable pub projected : ℕ → State → State
projected n X a = ltb a n && X a

-- Y is the cut of an answer set of document 000.
abbrev pub ProjectedAnswerSet : ℕ → Program → State → Type 0
ProjectedAnswerSet n P Y = (X : State) × IsAnswerSet P X × (projected n X ≡ Y)

-- Demand 3 over n written atoms: the models of the clauses, cut to these, are exactly the stable models cut to the same, one model for each.
pub record WrittenFaithful (n : ℕ) (P : Program) (s : List ℕ) : Type 0 where
  -- Every model has the cut of a stable model.
  pub projects : (M : Assignment) → is_model M (clauses_of P s) ≡ true → (X : State) × StableModel P X × (projection n M ≡ projected n X)
  -- Every stable model has the cut of some model.
  pub lifts : (X : State) → StableModel P X → (M : Assignment) × (is_model M (clauses_of P s) ≡ true) × (projection n M ≡ projected n X)
  -- Two models with the same cut agree on every variable.
  pub one_each : (M M' : Assignment) → is_model M (clauses_of P s) ≡ true → is_model M' (clauses_of P s) ≡ true
      → projection n M ≡ projection n M' → (v : ℕ) → 1 ≤ v → v ≤ variables_of P s → M v ≡ M' v
