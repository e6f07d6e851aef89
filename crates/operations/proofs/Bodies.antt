-- Laws of a body's place: what its number of positive atoms and its slice are.
use mathlib.Core.Bool.{false}
use mathlib.Core.List.{List, [], ◌∷◌}
use mathlib.Core.Path.{◌≡◌, refl}
use Prim.Native.Nat.{ℕ}
use native.Mathlib.Omega.{arith}
use borrow.Author.Tests.{eq-eqb}
use lib.Dec.{eqb}
use Rattle.std.proofs.Common.{Ok, Err}
use Rattle.refusals.specs.declared.Refusal.{Refusal}
use Rattle.refusals.specs.Numbers.{number}
use Rattle.refusals.proofs.Asking.{number_positive}
use Rattle.sheet.specs.Format.{part}
use Rattle.sheet.specs.declared.Limits.{Limits}
use Rattle.operations.specs.Outcome.{refused, answered}
use Rattle.operations.specs.Outputs.{body_start, body_end, body_positives, slice}
use Rattle.operations.specs.Calls.{nothing, describe, Promised}
use Rattle.operations.specs.Calls as call
use Rattle.operations.specs.Bodies.{body_refusal, shifted, SlicePromise, body_place, FindPromise}
use Rattle.operations.specs.declared.BodyPlace.{BodyPlace}
use Rattle.operations.proofs.Promises.{outcome_answered, outcome_refused, promised_refused, promised_answered, refused_is, answered_is}

module _ (L : Limits) (i : ℕ) (s : List ℕ) where
  -- Where a body is found.
  pub find_place : (p : BodyPlace) → body_refusal L i s ≡ 0 → p.start ≡ body_start i s → p.end ≡ body_end i s → p.positives ≡ body_positives i s
      → answered (p.start ∷ p.end ∷ p.positives ∷ []) ≡ body_place L i s
  unfolding body_place
  find_place p z a e k = rw (a, e, k) (outcome_answered (body_refusal L i s) _ z)

  -- And where it is refused.
  pub find_nowhere : (e : Refusal) → number e ≡ body_refusal L i s → FindPromise L i s (Err e)
  unfolding body_place
  find_nowhere e f = let p = number_positive e in record { is = outcome_refused (body_refusal L i s) (number e) _ f (λ z. omega arith); order = tt; inside = tt }

  module _ (e : Refusal) (F : FindPromise L i s (Err e)) where
    found_says : (number e ≡ body_refusal L i s) × (eqb (body_refusal L i s) 0 ≡ false)
    unfolding body_place
    found_says = refused_is (body_refusal L i s) _ (number e) F.is

    pub body_none : Promised L (call.body i s) (refused (number e)) nothing
    unfolding describe
    body_none = promised_refused L (call.body i s) e found_says.0

    -- The slice is empty and lies at the beginning.
    pub slice_empty : (base : ℕ × ℕ) → SlicePromise L i s base [] (shifted 0 base)
    slice_empty base = record { contents = rw found_says.1 refl; lies = rw found_says.1 refl }

  module _ (p : BodyPlace) (F : FindPromise L i s (Ok p)) where
    found_values : (body_refusal L i s ≡ 0) × (p.start ∷ p.end ∷ p.positives ∷ [] ≡ body_start i s ∷ body_end i s ∷ body_positives i s ∷ [])
    unfolding body_place
    found_values = answered_is (body_refusal L i s) _ _ F.is

    pub body_count : Promised L (call.body i s) (answered (p.positives ∷ [])) nothing
    unfolding describe
    body_count =
        let vs = found_values.1 in
        let e : p.positives ≡ body_positives i s = cc in
        rw e (promised_answered L (call.body i s) found_values.0)

    -- The slice from the start to the end that are found.
    pub slice_shown : (base : ℕ × ℕ) → SlicePromise L i s base (part p.start p.end s) (shifted p.start base)
    unfolding slice
    slice_shown base =
        let vs = found_values.1 in
        let a : p.start ≡ body_start i s = cc in
        let e : p.end ≡ body_end i s = cc in
        let z = eq-eqb (body_refusal L i s) 0 found_values.0 in
        record { contents = rw (z, a, e) refl; lies = rw (z, a) refl }
