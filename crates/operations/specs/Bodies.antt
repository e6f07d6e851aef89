-- Showing a body by its place: what is promised of the place, and of the slice of the sheet.
use Rattle.std.specs.Prelude.{cond, List, [], ◌∷◌, ◌≡◌, ℕ, ◌+◌, ◌≤◌, eqb, length, Result, IfOk}
use Rattle.refusals.specs.declared.Refusal.{Refusal}
use Rattle.sheet.specs.Questions.{first_refusal}
use Rattle.sheet.specs.declared.Limits.{Limits}
use Rattle.operations.specs.Outcome.{Outcome, outcome, from_place}
use Rattle.operations.specs.Outputs.{body_start, body_end, body_positives, slice}
use Rattle.operations.specs.Calls.{questions}
use Rattle.operations.specs.Calls as call
use Rattle.operations.specs.declared.BodyPlace.{BodyPlace}

-- The refusal of showing the body of record i.
abbrev pub body_refusal : Limits → ℕ → List ℕ → ℕ
body_refusal L i s = first_refusal (questions L (call.body i s))

-- The place so many bytes further on. A place is a block of memory and an offset in it.
abbrev pub shifted : ℕ → ℕ × ℕ → ℕ × ℕ
shifted k place = (place.0, k + place.1)

-- Its slice, of a sheet that lies at `base`: a part of the sheet, also where the body is empty; on a refusal it is empty and lies at the sheet's beginning.
pub record SlicePromise (L : Limits) (i : ℕ) (s : List ℕ) (base : ℕ × ℕ) (r : List ℕ) (at : ℕ × ℕ) : Type 0 where
  pub contents : r ≡ cond (eqb (body_refusal L i s) 0) (slice i s) []
  pub lies : at ≡ shifted (cond (eqb (body_refusal L i s) 0) (body_start i s) 0) base

-- Finding a body: where it starts and ends and its number of positive atoms, or the refusal.
unfoldable pub body_place : Limits → ℕ → List ℕ → Outcome
body_place L i s = outcome (body_refusal L i s) (body_start i s ∷ body_end i s ∷ body_positives i s ∷ [])

-- The same, within the sheet.
pub record FindPromise (L : Limits) (i : ℕ) (s : List ℕ) (r : Result BodyPlace Refusal) : Type 0 where
  pub is : from_place r ≡ body_place L i s
  pub order : IfOk r (λ p. p.start ≤ p.end)
  pub inside : IfOk r (λ p. p.end ≤ length s)
