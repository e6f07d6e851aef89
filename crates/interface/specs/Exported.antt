-- What the C interface promises: 0 or the number of the refusal is returned, and numbers are stored on success alone.
use Rattle.std.specs.Prelude.{List, [], ◌∷◌, ◌≡◌, ℕ, ◌-◌, Result}
use Rattle.refusals.specs.declared.Refusal.{Refusal}
use Rattle.operations.specs.Outcome.{Outcome, refused, answered, from_result}
use Rattle.operations.specs.declared.BodyPlace.{BodyPlace}

-- What is returned: 0, or the number of the refusal.
unfoldable pub status : Outcome → ℕ
status (refused refusal) = refusal
status (answered values) = 0

-- What the lent numbers are afterwards: the values, or on a refusal what they were.
unfoldable pub stored : Outcome → List ℕ → List ℕ
stored (refused refusal) old = old
stored (answered values) old = values

-- An operation that stores numbers.
pub record Stores (o : Outcome) (r : ℕ) (old new : List ℕ) : Type 0 where
  pub returns : r ≡ status o
  pub numbers : new ≡ stored o old

-- What is shown of finding a body: the refusal, or its number of positive atoms, where it starts, and its length.
abbrev pub from_shown : Result BodyPlace Refusal → Outcome
from_shown = from_result (λ p. p.positives ∷ p.start ∷ (p.end - p.start) ∷ [])
