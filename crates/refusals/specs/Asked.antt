-- What a function that asks questions answers.
use Rattle.std.specs.Prelude.{◌≡◌, ℕ, Result, IfOk}
use Rattle.refusals.specs.declared.Refusal.{Refusal}
use Rattle.refusals.specs.Numbers.{refusal_of}

-- The refusal of the questions is k, 0 where there is none, and of a value that is answered then P holds.
pub record Asked {A : Type 0} (k : ℕ) (P : A → Type 0) (r : Result A Refusal) : Type 0 where
  pub says : refusal_of r ≡ k
  pub value : IfOk r P
