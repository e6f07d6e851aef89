-- The smallest member of a set, and the set without it.
use mathlib.Core.Bool.{Bool, true, false, not, ◌&&◌, and-false, and-true, and_self}
use mathlib.Core.List.{[], ◌∷◌, ◌++◌}
use mathlib.Core.Path.{◌≡◌, refl, sym, ◌∙◌, ap}
use Prim.Native.Nat.{ℕ, zero, suc, ◌+◌, ◌-◌, ◌/◌, ◌%◌, ◌*◌, ◌^◌, ◌≤◌, ◌<◌}
use native.Mathlib.Nat.{zero-add, one-mul, div-lt_iff_lt-mul}
use native.Mathlib.Omega.{arith}
use borrow.Author.Tests.{eqb-true, eqb-false, eq-eqb, ne_eqb, ltb-true, ltb-false}
use lib.Bits.{bit_and, and_le_r}
use lib.Count.{count_trailing_zeros, under}
use lib.Arith.{lt-one}
use lib.Dec.{eqb, ltb}
use lib.Pow.{pow_pos, pow_mono}
use lib.ListN.{length}
use Rattle.lists.specs.Lists.{filter, member, range}
use Rattle.lists.proofs.Bools.{by_bool, bool_ext, true_false}
use Rattle.lists.proofs.Members.{filter_append, filter_none, filter_cong, range_left, range_append, range_in, range_out, filter_in, filter_out, member_in, member_out}
use Rattle.bits.specs.inner.Sets.{has}
use Rattle.bits.proofs.Digits.{has_half, has_lowest, half_small, and_has, zero_has}
use Rattle.bits.specs.inner.Visited.{listed, Lowest, Rest}

-- The first digit of k that is 1.
pub record First (k x a : ℕ) : Type 0 where
  pub low : a < k
  pub is : has x a ≡ true
  pub first : (b : ℕ) → b < a → has x b ≡ false

pub trailing_first : (k x : ℕ) → 0 < x → x < 2 ^ k → First k x (count_trailing_zeros k x)
unfolding count_trailing_zeros
trailing_first zero x p l = absurd (omega arith)
trailing_first (suc k) x p l = go (x % 2) refl (λ e. trailing_first k (x / 2) (omega arith) (half_small x k l))
  where
    go : (r : ℕ) → x % 2 ≡ r → (x % 2 ≡ 0 → First k (x / 2) (count_trailing_zeros k (x / 2))) → First (suc k) x (under r (count_trailing_zeros k (x / 2)))
    go zero e ih =
        let F = ih e in
        let l = F.low in
        record { low = omega arith; is = has_half x (count_trailing_zeros k (x / 2)) ∙ F.is; first = below F }
      where
        below : First k (x / 2) (count_trailing_zeros k (x / 2)) → (b : ℕ) → b < suc (count_trailing_zeros k (x / 2)) → has x b ≡ false
        below F zero l = has_lowest x ∙ ne_eqb (x % 2) 1 (λ o. omega arith)
        below F (suc b) l = has_half x b ∙ F.first b (omega arith)
    go (suc r) e ih = record { low = omega arith; is = has_lowest x ∙ eq-eqb (x % 2) 1 (omega arith); first = λ b l. absurd (omega arith) }

pub trailing_lowest : (x : ℕ) → 0 < x → x < 2 ^ 64 → Lowest x (count_trailing_zeros 64 x)
trailing_lowest x p l = let F = trailing_first 64 x p l in record { low = F.low; is = F.is; first = F.first }

pub has_some : (x a : ℕ) → has x a ≡ true → 0 < x
has_some zero a t = absurd (true_false t (zero_has a))
has_some (suc x) a t = omega arith

-- Taking 1 away clears the first digit that is 1 and no digit above it.
cleared : (a x : ℕ) → has x a ≡ true → ((b : ℕ) → b < a → has x b ≡ false) → (b : ℕ) → (has x b && has (x - 1) b) ≡ (has x b && not (eqb b a))
cleared zero x t f zero =
    let one : x % 2 ≡ 1 = eqb-true (x % 2) 1 (sym (has_lowest x) ∙ t) in
    rw (has_lowest (x - 1) ∙ ne_eqb ((x - 1) % 2) 1 (λ o. omega arith)) refl
cleared zero x t f (suc b) =
    let one : x % 2 ≡ 1 = eqb-true (x % 2) 1 (sym (has_lowest x) ∙ t) in
    let half : (x - 1) / 2 ≡ x / 2 = omega arith in
    rw (has_half (x - 1) b, half, has_half x b, ne_eqb (suc b) 0 (λ e. omega arith)) (and_self (has (x / 2) b) ∙ sym (and-true (has (x / 2) b)))
cleared (suc a) x t f zero = rw (f 0 (omega arith)) refl
cleared (suc a) x t f (suc b) =
    let even : x % 2 ≡ 1 → ⊥ = eqb-false (x % 2) 1 (sym (has_lowest x) ∙ f 0 (omega arith)) in
    let pos = has_some (x / 2) a (sym (has_half x a) ∙ t) in
    let half : (x - 1) / 2 ≡ x / 2 - 1 = omega arith in
    let same : eqb (suc b) (suc a) ≡ eqb b a = bool_ext (λ e. eq-eqb b a (let u = eqb-true (suc b) (suc a) e in omega arith)) (λ e. eq-eqb (suc b) (suc a) (let u = eqb-true b a e in omega arith)) in
    rw (has_half (x - 1) b, half, has_half x b, same) (cleared a (x / 2) (sym (has_half x a) ∙ t) (λ c l. sym (has_half x c) ∙ f (suc c) (omega arith)) b)

pub rest_is : (x : ℕ) → 0 < x → Rest x (bit_and x (x - 1))
rest_is x p =
    let l = and_le_r x (x - 1) in
    record { fewer = omega arith; without = λ a L. record { falls = omega arith; members = λ b. and_has x (x - 1) b ∙ cleared a x L.is L.first b } }

-- The list of a set: its smallest member, then the list of the rest.
pub listed_none : listed 0 ≡ []
unfolding listed
listed_none = filter_none (has 0) (range 0 64) (λ a _. zero_has a)

module _ (x a : ℕ) (L : Lowest x a) where
  split : (y : ℕ) → ((b : ℕ) → b < a → has y b ≡ false) → listed y ≡ filter (has y) (a ∷ range (a + 1) (64 - (a + 1)))
  unfolding listed
  split y f =
      let l = L.low in
      let sum : a + (64 - a) ≡ 64 = omega arith in
      ap (λ k. filter (has y) (range 0 k)) (sym sum)
      ∙ (ap (filter (has y)) (range_append 0 a (64 - a))
      ∙ (filter_append (has y) (range 0 a) (range (0 + a) (64 - a))
      ∙ (ap (λ l. l ++ filter (has y) (range (0 + a) (64 - a))) (filter_none (has y) (range 0 a) (λ b m. let r = (range_out 0 a b m).high in f b (omega arith)))
      ∙ ap (filter (has y)) (ap (λ i. range i (64 - a)) (zero-add a) ∙ range_left a 64 L.low))))

  pub listed_lowest : (r : ℕ) → Rest x r → listed x ≡ a ∷ listed r
  unfolding filter
  listed_lowest r R =
      let W = R.without a L in
      let none : (b : ℕ) → b < a → has r b ≡ false = λ b l. W.members b ∙ rw (L.first b l) refl in
      let gone : has r a ≡ false = W.members a ∙ rw (eq-eqb a a refl) (and-false (has x a)) in
      let long : listed x ≡ a ∷ filter (has x) (range (a + 1) (64 - (a + 1))) = rw L.is at (split x L.first) in
      let short : listed r ≡ filter (has r) (range (a + 1) (64 - (a + 1))) = rw gone at (split r none) in
      long
      ∙ ap (λ l. a ∷ l) (filter_cong (has x) (has r) (range (a + 1) (64 - (a + 1)))
      (λ b m. sym (W.members b ∙ rw (ne_eqb b a (λ e. let l = (range_out (a + 1) (64 - (a + 1)) b m).low in omega arith)) (and-true (has x b))))
      ∙ sym short)

-- At most 64 members.
filter_few : (p : ℕ → Bool) (a k : ℕ) → length (filter p (range a k)) ≤ k
unfolding filter range
filter_few p a zero = omega arith
filter_few p a (suc k) = let r = filter_few p (suc a) k in by_bool (p a) (λ t. rw t (omega arith)) (λ f. rw f (omega arith))

pub listed_few : (x : ℕ) → length (listed x) ≤ 64
unfolding listed
listed_few x = filter_few (has x) 0 64

-- The members of a machine word are below 64.
pub has_bound : (x a : ℕ) → x < 2 ^ 64 → has x a ≡ true → a < 64
has_bound x a l t = by_bool (ltb a 64) (λ u. ltb-true a 64 u) (λ f. absurd (true_false t (none (ltb-false a 64 f))))
  where
    none : 64 ≤ a → has x a ≡ false
    none h =
        let p : 2 ^ 64 ≤ 2 ^ a = pow_mono h in
        let small : x < 1 * 2 ^ a = rw (one-mul (2 ^ a)) (omega arith) in
        ap (λ n. eqb (n % 2) 1) (lt-one ((div-lt_iff_lt-mul (pow_pos a)).1 small))

-- The members of the list are those of the set.
pub listed_member : (x b : ℕ) → x < 2 ^ 64 → member b (listed x) ≡ has x b
unfolding listed
listed_member x b l =
    bool_ext (λ m. (filter_out (has x) (range 0 64) b (member_out b (filter (has x) (range 0 64)) m)).1)
    (λ t. let h = has_bound x b l t in member_in b (filter (has x) (range 0 64)) (filter_in (has x) (range 0 64) b (range_in 0 64 b (omega arith) (omega arith)) t))
