-- A set by a test.
use mathlib.Core.Bool.{Bool, ◌&&◌, cond}
use mathlib.Core.Path.{◌≡◌, sym, ◌∙◌, ap}
use Prim.Native.Nat.{ℕ, zero, suc, ◌+◌, ◌*◌, ◌/◌, ◌%◌, ◌^◌, ◌<◌}
use native.Mathlib.Nat.{pow-suc}
use native.Mathlib.Omega.{arith}
use borrow.Author.Tests.{eq-eqb, ne_eqb, ltb-true, lt-ltb, le-ltb}
use lib.Dec.{ltb}
use Rattle.lists.proofs.Bools.{by_bool, bool_ext}
use Rattle.bits.specs.inner.Sets.{has}
use Rattle.bits.proofs.Digits.{has_half, has_lowest, zero_has}

-- The set of the numbers below k that pass a test.
pub set_by : ℕ → (ℕ → Bool) → ℕ
set_by zero t = 0
set_by (suc k) t = cond (t 0) 1 0 + 2 * set_by k (λ a. t (suc a))

pub set_by_small : (k : ℕ) (t : ℕ → Bool) → set_by k t < 2 ^ k
unfolding set_by
set_by_small zero t = omega arith
set_by_small (suc k) t =
    let h = set_by_small k (λ a. t (suc a)) in
    let e = pow-suc 2 k in
    by_bool (t 0) (λ e. rw e (omega arith)) (λ e. rw e (omega arith))

pub set_by_has : (k : ℕ) (t : ℕ → Bool) (a : ℕ) → has (set_by k t) a ≡ (ltb a k && t a)
unfolding set_by
set_by_has zero t a = zero_has a ∙ sym (ap (λ (b : Bool). b && t a) (le-ltb a 0 (omega arith)))
set_by_has (suc k) t zero =
    let y = set_by k (λ a. t (suc a)) in
    has_lowest (cond (t 0) 1 0 + 2 * y)
    ∙ (by_bool (t 0) (λ e. rw e (eq-eqb ((1 + 2 * y) % 2) 1 (omega arith))) (λ e. rw e (ne_eqb ((0 + 2 * y) % 2) 1 (omega arith)))
    ∙ sym (ap (λ (b : Bool). b && t 0) (lt-ltb 0 (suc k) (omega arith))))
set_by_has (suc k) t (suc a) =
    let y = set_by k (λ a. t (suc a)) in
    let half : (cond (t 0) 1 0 + 2 * y) / 2 ≡ y = by_bool (t 0) (λ e. rw e (omega arith)) (λ e. rw e (omega arith)) in
    let same : ltb a k ≡ ltb (suc a) (suc k) = bool_ext (λ l. let h = ltb-true a k l in lt-ltb (suc a) (suc k) (omega arith)) (λ l. let h = ltb-true (suc a) (suc k) l in lt-ltb a k (omega arith)) in
    has_half (cond (t 0) 1 0 + 2 * y) a ∙ (ap (λ n. has n a) half ∙ (set_by_has k (λ a. t (suc a)) a ∙ ap (λ (b : Bool). b && t (suc a)) same))
