-- The digits of unions, intersections and powers of 2.
use mathlib.Core.Bool.{Bool, true, false, not, ◌&&◌, ◌||◌, or_comm, or-false, true≢false}
use mathlib.Core.Path.{◌≡◌, refl, sym, ◌∙◌, ap, subst}
use Prim.Native.Nat.{ℕ, zero, suc, ◌+◌, ◌-◌, ◌*◌, ◌/◌, ◌%◌, ◌^◌, ◌<◌, ◌≤◌, min, max}
use native.Mathlib.Nat.{mod-lt, zero-lt-suc, div-lt_iff_lt-mul, pow-suc, one-mul, mul-mod_left, zero-div, div-one}
use native.Mathlib.Omega.{arith}
use borrow.Author.Tests.{eqb-true, eq-eqb, ne_eqb, ltb-true, ltb-false, lt-ltb, le-ltb}
use lib.Arith.{digits_mod, lt-one}
use lib.Bits.{bit_and, bit_or, bit_xor, differ, and_le_l, and_le_r, or_add_and, and_shr, or_shr, xor_shr, and_step, or_step, xor_step}
use lib.Count.{ones, ones_step}
use lib.Dec.{eqb, ltb, lit<}
use lib.Pow.{pow_pos, pow-lt, shl_exact, shl-shr, shr-shr, pow-add}
use lib.ListN.{length}
use Rattle.lists.specs.Lists.{filter, range}
use Rattle.lists.proofs.Bools.{by_bool, bool_ext, and_left, and_right}
use Rattle.lists.proofs.Members.{filter_cong}
use Rattle.bits.specs.inner.Sets.{has, With, WithIf, Without, Subset, Difference}

-- What holds at 0 and 1 holds of two digits.
digits_ind : (P : ℕ → ℕ → Type 0) → P 0 0 → P 0 1 → P 1 0 → P 1 1 → (p q : ℕ) → p < 2 → q < 2 → P p q
digits_ind P a b c d zero zero l k = a
digits_ind P a b c d zero (suc zero) l k = b
digits_ind P a b c d zero (suc (suc q)) l k = absurd (omega arith)
digits_ind P a b c d (suc zero) zero l k = c
digits_ind P a b c d (suc zero) (suc zero) l k = d
digits_ind P a b c d (suc zero) (suc (suc q)) l k = absurd (omega arith)
digits_ind P a b c d (suc (suc p)) q l k = absurd (omega arith)

digit : (x : ℕ) → x % 2 < 2
digit x = mod-lt x (zero-lt-suc 1)

-- A digit operation, digit by digit.
step_mod : (q r : ℕ) → r < 2 → (q * 2 + r) % 2 ≡ r
step_mod q r l = digits_mod q l

max_digit : (p q : ℕ) → p < 2 → q < 2 → max p q < 2
max_digit p q l k = omega arith

max_is_or : (p q : ℕ) → p < 2 → q < 2 → eqb (max p q) 1 ≡ (eqb p 1 || eqb q 1)
max_is_or = digits_ind (λ p q. eqb (max p q) 1 ≡ (eqb p 1 || eqb q 1)) refl refl refl refl

min_is_and : (p q : ℕ) → p < 2 → q < 2 → eqb (min p q) 1 ≡ (eqb p 1 && eqb q 1)
min_is_and = digits_ind (λ p q. eqb (min p q) 1 ≡ (eqb p 1 && eqb q 1)) refl refl refl refl

pub or_has : (x y a : ℕ) → has (bit_or x y) a ≡ (has x a || has y a)
or_has x y a =
    let u = x / 2 ^ a in
    let v = y / 2 ^ a in
    ap (λ n. eqb (n % 2) 1) (or_shr x y a ∙ or_step u v)
    ∙ (ap (λ n. eqb n 1) (step_mod (bit_or (u / 2) (v / 2)) (max (u % 2) (v % 2)) (max_digit (u % 2) (v % 2) (digit u) (digit v)))
    ∙ max_is_or (u % 2) (v % 2) (digit u) (digit v))

pub or_grows : (x y : ℕ) → x ≤ bit_or x y
or_grows x y = let e = or_add_and x y in let k = and_le_r x y in omega arith

pub and_has : (x y a : ℕ) → has (bit_and x y) a ≡ (has x a && has y a)
and_has x y a =
    let u = x / 2 ^ a in
    let v = y / 2 ^ a in
    ap (λ n. eqb (n % 2) 1) (and_shr x y a ∙ and_step u v)
    ∙ (ap (λ n. eqb n 1) (step_mod (bit_and (u / 2) (v / 2)) (min (u % 2) (v % 2)) (let p = digit u in omega arith))
    ∙ min_is_and (u % 2) (v % 2) (digit u) (digit v))

differ_is : (p q : ℕ) → p < 2 → q < 2 → eqb (differ p (min p q)) 1 ≡ (eqb p 1 && not (eqb q 1))
differ_is = digits_ind (λ p q. eqb (differ p (min p q)) 1 ≡ (eqb p 1 && not (eqb q 1))) refl refl refl refl

differ_small : (p q : ℕ) → p < 2 → q < 2 → differ p (min p q) < 2
differ_small = digits_ind (λ p q. differ p (min p q) < 2) (lit< tt) (lit< tt) (lit< tt) (lit< tt)

-- x without y.
pub less_has : (x y a : ℕ) → has (bit_xor x (bit_and x y)) a ≡ (has x a && not (has y a))
less_has x y a =
    let u = x / 2 ^ a in
    let v = y / 2 ^ a in
    let lower : bit_and u v % 2 ≡ min (u % 2) (v % 2) = ap (λ n. n % 2) (and_step u v) ∙ step_mod (bit_and (u / 2) (v / 2)) (min (u % 2) (v % 2)) (let p = digit u in omega arith) in
    ap (λ n. eqb (n % 2) 1) (xor_shr x (bit_and x y) a ∙ (ap (bit_xor u) (and_shr x y a) ∙ (xor_step u (bit_and u v) ∙ ap (λ n. bit_xor (u / 2) (bit_and u v / 2) * 2 + differ (u % 2) n) lower)))
    ∙ (ap (λ n. eqb n 1) (step_mod (bit_xor (u / 2) (bit_and u v / 2)) (differ (u % 2) (min (u % 2) (v % 2))) (differ_small (u % 2) (v % 2) (digit u) (digit v)))
    ∙ differ_is (u % 2) (v % 2) (digit u) (digit v))

-- Digits above the lowest.
pub has_half : (x a : ℕ) → has x (suc a) ≡ has (x / 2) a
has_half x a = ap (λ n. eqb (n % 2) 1) (ap (λ k. x / 2 ^ k) (let e : suc a ≡ 1 + a = omega arith in e) ∙ sym (shr-shr x 1 a))

pub has_lowest : (x : ℕ) → has x 0 ≡ eqb (x % 2) 1
has_lowest x = ap (λ n. eqb (n % 2) 1) (div-one x)

pub half_small : (x k : ℕ) → x < 2 ^ suc k → x / 2 < 2 ^ k
half_small x k l = (div-lt_iff_lt-mul (zero-lt-suc 1)).1 (subst (λ n. x < n) (pow-suc 2 k) l)

digit_same : (p q : ℕ) → p < 2 → q < 2 → eqb p 1 ≡ eqb q 1 → p ≡ q
digit_same = digits_ind (λ p q. eqb p 1 ≡ eqb q 1 → p ≡ q) (λ e. refl) (λ e. absurd (true≢false (sym e))) (λ e. absurd (true≢false e)) (λ e. refl)

digit_le : (p q : ℕ) → p < 2 → q < 2 → (eqb p 1 ≡ true → eqb q 1 ≡ true) → p ≤ q
digit_le = digits_ind (λ p q. (eqb p 1 ≡ true → eqb q 1 ≡ true) → p ≤ q) (λ e. omega arith) (λ e. omega arith) (λ e. absurd (true≢false (sym (e refl)))) (λ e. omega arith)

-- Two numbers with the same digits are the same.
pub digits_same : (k x y : ℕ) → x < 2 ^ k → y < 2 ^ k → ((a : ℕ) → has x a ≡ has y a) → x ≡ y
digits_same zero x y l m h = omega arith
digits_same (suc k) x y l m h =
    let half = digits_same k (x / 2) (y / 2) (half_small x k l) (half_small y k m) (λ a. sym (has_half x a) ∙ (h (suc a) ∙ has_half y a)) in
    let low = digit_same (x % 2) (y % 2) (digit x) (digit y) (sym (has_lowest x) ∙ (h 0 ∙ has_lowest y)) in
    omega arith

-- A smaller set is a smaller number.
pub inside_le : (k x y : ℕ) → x < 2 ^ k → y < 2 ^ k → ((a : ℕ) → has x a ≡ true → has y a ≡ true) → x ≤ y
inside_le zero x y l m h = omega arith
inside_le (suc k) x y l m h =
    let half = inside_le k (x / 2) (y / 2) (half_small x k l) (half_small y k m) (λ a t. sym (has_half y a) ∙ h (suc a) (has_half x a ∙ t)) in
    let low = digit_le (x % 2) (y % 2) (digit x) (digit y) (λ t. sym (has_lowest y) ∙ h 0 (has_lowest x ∙ t)) in
    omega arith

filter_shift : (p : ℕ → Bool) (a k : ℕ) → length (filter p (range (suc a) k)) ≡ length (filter (λ i. p (suc i)) (range a k))
unfolding filter range
filter_shift p a zero = refl
filter_shift p a (suc k) = by_bool (p (suc a)) (λ t. rw t (ap suc (filter_shift p (suc a) k))) (λ f. rw f (filter_shift p (suc a) k))

ones_zero : ones 0 ≡ 0
unfolding ones
ones_zero = refl

-- The ones are counted.
pub ones_counted : (k x : ℕ) → x < 2 ^ k → ones x ≡ length (filter (has x) (range 0 k))
unfolding filter range
ones_counted zero x l = ap ones (lt-one l) ∙ ones_zero
ones_counted (suc k) x l =
    let rest : ones (x / 2) ≡ length (filter (has x) (range 1 k)) =
    ones_counted k (x / 2) (half_small x k l) ∙ (ap length (filter_cong (has (x / 2)) (λ i. has x (suc i)) (range 0 k) (λ a _. sym (has_half x a))) ∙ sym (filter_shift (has x) 0 k)) in
    let step = ones_step x in
    by_bool (has x 0)
    (λ t. let one : x % 2 ≡ 1 = eqb-true (x % 2) 1 (sym (has_lowest x) ∙ t) in rw t (omega arith))
    (λ f. let none : x % 2 ≡ 0 = digit_same (x % 2) 0 (digit x) (lit< tt) (sym (has_lowest x) ∙ f) in rw f (omega arith))

pub zero_has : (a : ℕ) → has 0 a ≡ false
zero_has a = rw (zero-div (2 ^ a)) refl

power_low : (a b : ℕ) → a < b → has (2 ^ a) b ≡ false
power_low a b l =
    let small : 2 ^ a < 1 * 2 ^ b = rw (one-mul (2 ^ b)) (pow-lt l) in
    ap (λ n. eqb (n % 2) 1) (lt-one ((div-lt_iff_lt-mul (pow_pos b)).1 small))

power_high : (j b : ℕ) → has (2 ^ (suc j + b)) b ≡ false
power_high j b = rw (pow-add 2 (suc j) b, shl-shr (2 ^ suc j) b, pow-suc 2 j, mul-mod_left (2 ^ j) 2) refl

power_same : (a : ℕ) → has (2 ^ a) a ≡ true
power_same a = ap (λ n. eqb (n % 2) 1) (ap (λ n. n / 2 ^ a) (sym (one-mul (2 ^ a))) ∙ shl-shr 1 a)

pub power_has : (a b : ℕ) → has (2 ^ a) b ≡ eqb b a
power_has a b = by_bool (ltb a b) (λ t. low (ltb-true a b t)) (λ f. by_bool (ltb b a) (λ t. high (ltb-true b a t)) (λ g. same (ltb-false a b f) (ltb-false b a g)))
  where
    low : a < b → has (2 ^ a) b ≡ eqb b a
    low l = power_low a b l ∙ sym (ne_eqb b a (λ e. omega arith))

    high : b < a → has (2 ^ a) b ≡ eqb b a
    high l = let e : a ≡ suc (a - suc b) + b = omega arith in ap (λ n. has (2 ^ n) b) e ∙ (power_high (a - suc b) b ∙ sym (ne_eqb b a (λ e. omega arith)))

    same : b ≤ a → a ≤ b → has (2 ^ a) b ≡ eqb b a
    same l k = let e : b ≡ a = omega arith in ap (has (2 ^ a)) e ∙ (power_same a ∙ sym (eq-eqb b a e))

-- The set with one atom more, as the machine makes it.
pub with_has : (x a b : ℕ) → a < 64 → has (bit_or x (1 * 2 ^ a % 2 ^ 64)) b ≡ (eqb b a || has x b)
with_has x a b l =
    let one : 1 * 2 ^ a % 2 ^ 64 ≡ 2 ^ a = shl_exact 1 a 64 (lit< tt) (omega arith) ∙ one-mul (2 ^ a) in
    ap (λ n. has (bit_or x n) b) one ∙ (or_has x (2 ^ a) b ∙ (ap (λ (y : Bool). has x b || y) (power_has a b) ∙ or_comm (has x b) (eqb b a)))

-- The machine's test of a subset.
pub subset_test : (x y : ℕ) → x < 2 ^ 64 → Subset x y (eqb (bit_and x y) x)
subset_test x y l =
    record {
      inside = λ t a e. and_right (has x a) (has y a) (sym (and_has x y a) ∙ (ap (λ n. has n a) (eqb-true (bit_and x y) x t) ∙ e));
      all_inside = λ h. eq-eqb (bit_and x y) x (digits_same 64 (bit_and x y) x (let k = and_le_l x y in omega arith) l (λ a. and_has x y a ∙ both (has x a) (has y a) (h a)));
    }
  where
    both : (p q : Bool) → (p ≡ true → q ≡ true) → (p && q) ≡ p
    both true q f = f refl
    both false q f = refl

pub without_one : (x a one r : ℕ) → x < 2 ^ 64 → r < 2 ^ 64 → With 0 a one → Difference x one r → Without x a r
without_one x a one r l m W D =
    record {
      falls = inside_le 64 r x m l (λ b t. and_left (has x b) (not (has one b)) (sym (D.members b) ∙ t));
      members = λ b. D.members b ∙ ap (λ (p : Bool). has x b && not p) (W.members b ∙ (ap (λ (p : Bool). eqb b a || p) (zero_has b) ∙ or-false (eqb b a)));
    }

-- The numbers below k.
pub full_has : (k a : ℕ) → has (2 ^ k - 1) a ≡ ltb a k
full_has zero a = zero_has a ∙ sym (le-ltb a 0 (omega arith))
full_has (suc k) zero =
    let p = pow_pos k in
    let e = pow-suc 2 k in
    has_lowest (2 ^ suc k - 1) ∙ (eq-eqb ((2 ^ suc k - 1) % 2) 1 (omega arith) ∙ sym (lt-ltb 0 (suc k) (omega arith)))
full_has (suc k) (suc a) =
    let p = pow_pos k in
    let e = pow-suc 2 k in
    let half : (2 ^ suc k - 1) / 2 ≡ 2 ^ k - 1 = omega arith in
    has_half (2 ^ suc k - 1) a ∙ (ap (λ n. has n a) half ∙ (full_has k a ∙ bool_ext (λ t. lt-ltb (suc a) (suc k) (let l = ltb-true a k t in omega arith)) (λ t. lt-ltb a k (let l = ltb-true (suc a) (suc k) t in omega arith))))

-- A set with an atom, where a test holds.
joins : (x e : Bool) → (e || x) ≡ (x || e && true)
joins true true = refl
joins true false = refl
joins false true = refl
joins false false = refl

pub skips : (x e : Bool) → x ≡ (x || e && false)
skips true e = refl
skips false true = refl
skips false false = refl

module _ (x a : ℕ) (b : Bool) where
  pub with_yes : (r : ℕ) → b ≡ true → With x a r → WithIf x a b r
  with_yes r t W = record { members = λ p. W.members p ∙ (joins (has x p) (eqb p a) ∙ ap (λ (y : Bool). has x p || eqb p a && y) (sym t)) }

  pub with_no : b ≡ false → WithIf x a b x
  with_no f = record { members = λ p. skips (has x p) (eqb p a) ∙ ap (λ (y : Bool). has x p || eqb p a && y) (sym f) }
