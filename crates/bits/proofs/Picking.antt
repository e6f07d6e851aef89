-- The loop that makes the set of the numbers below a limit of which a test holds.
use mathlib.Core.Bool.{Bool, false, ◌&&◌, ◌||◌}
use mathlib.Core.Path.{◌≡◌, sym, ◌∙◌, ap}
use Prim.Native.Nat.{ℕ, ◌+◌, ◌≤◌}
use native.Mathlib.Omega.{arith}
use borrow.Author.Tests.{eqb-true, eqb-false, eq-eqb, ne_eqb, lt-ltb, le-ltb, ltb-true}
use lib.Dec.{eqb, ltb}
use Rattle.lists.proofs.Bools.{by_bool, bool_ext}
use Rattle.bits.specs.inner.Sets.{has, WithIf}
use Rattle.bits.proofs.Digits.{zero_has, skips}

-- The numbers below p of which the test holds.
pub record Picking (t : ℕ → Bool) (p set : ℕ) : Type 0 where
  pub members : (q : ℕ) → has set q ≡ (ltb q p && t q)

module _ (t : ℕ → Bool) where
  pub picking_start : Picking t 0 0
  picking_start = record { members = λ q. zero_has q ∙ ap (λ (y : Bool). y && t q) (sym (le-ltb q 0 (omega arith))) }

  pub picking_turn : (p set new : ℕ) (b : Bool) → Picking t p set → b ≡ t p → WithIf set p b new → Picking t (p + 1) new
  picking_turn p set new b F e W =
      record { members = λ q. W.members q ∙ by_bool (eqb q p) (λ y. here q (eqb-true q p y)) (λ y. there q (eqb-false q p y)) }
    where
      here : (q : ℕ) → q ≡ p → (has set q || eqb q p && b) ≡ (ltb q (p + 1) && t q)
      here q g = rw (F.members q, le-ltb q p (omega arith), eq-eqb q p g, lt-ltb q (p + 1) (omega arith)) (e ∙ ap t (sym g))

      there : (q : ℕ) → (q ≡ p → ⊥) → (has set q || eqb q p && b) ≡ (ltb q (p + 1) && t q)
      there q ne =
          rw (ne_eqb q p ne, F.members q)
          (sym (skips (ltb q p && t q) false)
          ∙ ap (λ (y : Bool). y && t q) (bool_ext (λ y. lt-ltb q (p + 1) (let l = ltb-true q p y in omega arith)) (λ y. lt-ltb q p (let l = ltb-true q (p + 1) y in omega arith))))

  pub picked : (p k set : ℕ) → Picking t p set → p ≤ k → k ≤ p → (q : ℕ) → has set q ≡ (ltb q k && t q)
  picked p k set F l m q = F.members q ∙ ap (λ i. ltb q i && t q) (let e : p ≡ k = omega arith in e)
