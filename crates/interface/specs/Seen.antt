-- What C sees of a call, as a service: the demands are stated of it as of the operations (`guarantees/specs/Demands.antt`).
use Rattle.std.specs.Prelude.{List, [], ◌∷◌, ◌++◌, ◌≡◌, ℕ, ◌-◌, length, take}
use Rattle.sheet.specs.Questions.{first_refusal}
use Rattle.sheet.specs.declared.Limits.{Limits}
use Rattle.operations.specs.Outcome.{Outcome, outcome}
use Rattle.operations.specs.Outputs.{body_start, body_end}
use Rattle.operations.specs.Calls.{Call, Buffer, describe, questions, outcome_of, left, Service}
use Rattle.operations.specs.Calls as call
use Rattle.operations.specs.Bodies.{body_refusal}
use Rattle.interface.specs.Exported.{Stores}

-- The numbers that are stored behind a call's values: of a body, where it starts, and its length. Other calls store their values alone.
abbrev pub place_numbers : Call → List ℕ
place_numbers (call.body i s) = body_start i s ∷ (body_end i s - body_start i s) ∷ []
place_numbers (call.read s) = []
place_numbers (call.components s old) = []
place_numbers (call.default s old) = []
place_numbers (call.lparse s old) = []
place_numbers (call.test s q) = []
place_numbers (call.missing s q old) = []
place_numbers (call.unfolded s q old) = []
place_numbers (call.clauses s q old) = []
place_numbers (call.count s) = []

-- The promise of a call's function: of the number returned, the lent numbers before and after, and the buffer afterwards.
pub record Returned (L : Limits) (c : Call) (r : ℕ) (before after : List ℕ) (b : Buffer) : Type 0 where
  pub stores : Stores (outcome (first_refusal (questions L c)) ((describe c).values ++ place_numbers c)) r before after
  pub leaves : b ≡ left (outcome_of L c) (describe c)

-- What C is told: the number of the refusal, or with 0 the values, which are the first of the numbers stored.
unfoldable pub told : Call → ℕ → List ℕ → Outcome
told c r after = outcome r (take (length (describe c).values) after)

-- The C interface with these limits: what the promises of its functions allow.
unfoldable pub Seen : Limits → Service
Seen L c o b = (r : ℕ) × (before : List ℕ) × (after : List ℕ) × Returned L c r before after b × (o ≡ told c r after)

-- On a refusal the lent numbers are as they were.
abbrev pub NumbersKept : Limits → Type 0
NumbersKept L = (c : Call) (r : ℕ) (before after : List ℕ) (b : Buffer) → Returned L c r before after b → (r ≡ 0 → ⊥) → after ≡ before

-- Where the services of two limits show a body and the first does not refuse by 15, the same is returned, and the same numbers are stored: p, and the place.
abbrev pub SameShown : Limits → Limits → Type 0
SameShown L M = (i : ℕ) (s : List ℕ) (r t : ℕ) (before after later : List ℕ) (b d : Buffer) → Returned L (call.body i s) r before after b
    → Returned M (call.body i s) t before later d → (body_refusal L i s ≡ 15 → ⊥) → (t ≡ r) × (later ≡ after)
