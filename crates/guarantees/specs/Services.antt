-- Two services of one format with limits of their own (document 02, W5), as theorems of their answers.
use Rattle.std.specs.Prelude.{List, ◌≡◌, ℕ, ◌≤◌, Result}
use Rattle.sheet.specs.Questions.{AllYes}
use Rattle.sheet.specs.declared.Limits.{Limits}
use Rattle.operations.specs.Outcome.{Outcome, refused}
use Rattle.operations.specs.Calls.{Call, Buffer, describe, service_questions, Service}
use Rattle.refusals.specs.declared.Refusal.{Refusal}
use Rattle.operations.specs.Bodies.{body_refusal, SlicePromise, FindPromise}
use Rattle.operations.specs.declared.BodyPlace.{BodyPlace}
use Rattle.guarantees.specs.Demands.{Demand1}

-- The limits of the format are the same.
pub record OneFormat (L M : Limits) : Type 0 where
  pub atoms : L.atoms ≡ M.atoms
  pub records : L.records ≡ M.records
  pub component : L.component ≡ M.component
  pub entries : L.entries ≡ M.entries

-- The service with the limits L takes no more than that with the limits M.
pub record Narrower (L M : Limits) : Type 0 where
  pub atoms : L.taken.atoms ≤ M.taken.atoms
  pub component : L.taken.component ≤ M.taken.component
  pub entries : L.taken.entries ≤ M.taken.entries

-- A service that takes all that the format allows.
pub record WholeFormat (L : Limits) : Type 0 where
  pub atoms : L.atoms ≤ L.taken.atoms
  pub component : L.component ≤ L.taken.component
  pub entries : L.entries ≤ L.taken.entries

-- The service S with the limits L, and a service T.
pub record SameAnswers (L : Limits) (S T : Service) : Type 0 where
  -- A sheet and a sequence that pass S's 15 and 16 get the same outcome in both, and the same buffer: bytes, words, clauses, numbers, count and verdict.
  pub within : (c : Call) (o p : Outcome) (b d : Buffer) → S c o b → T c p d → AllYes (service_questions L (describe c).input) → (p ≡ o) × (d ≡ b)
  -- And so it is wherever S does not refuse by 15 or by 16: T gives the same answer, or refuses by the same number.
  pub otherwise : (c : Call) (o p : Outcome) (b d : Buffer) → S c o b → T c p d → (o ≡ refused 15 → ⊥) → (o ≡ refused 16 → ⊥) → (p ≡ o) × (d ≡ b)

-- So it is of every two services of one format that meet demand 1, where the first takes no more than the second.
abbrev pub OneService : Type 1
OneService = (L M : Limits) → OneFormat L M → Narrower L M → (S T : Service) → Demand1 L S → Demand1 M T → SameAnswers L S T

-- A body that the service with the limits L does not refuse by 15 is the same in that with the limits M: its place, and its slice with where that lies.
pub record SameBodies (L M : Limits) : Type 0 where
  pub places : (i : ℕ) (s : List ℕ) (r t : Result BodyPlace Refusal) → FindPromise L i s r → FindPromise M i s t → (body_refusal L i s ≡ 15 → ⊥) → t ≡ r
  pub slices : (i : ℕ) (s r t : List ℕ) (base at place : ℕ × ℕ) → SlicePromise L i s base r at → SlicePromise M i s base t place
      → (body_refusal L i s ≡ 15 → ⊥) → (t ≡ r) × (place ≡ at)

-- The service never refuses by 15 or by 16.
abbrev pub NeverTooLarge : Service → Type 0
NeverTooLarge S = (c : Call) (k : ℕ) (b : Buffer) → S c (refused k) b → (k ≡ 15 → ⊥) × (k ≡ 16 → ⊥)
