-- Eight numbers in a row: whether a set has them, and the set without them.
use mathlib.Core.Bool.{Bool, true, false, not, ◌&&◌, and-false, and-true}
use mathlib.Core.List.{◌++◌}
use mathlib.Core.Path.{◌≡◌, refl, sym, ◌∙◌, ap}
use Prim.Native.Nat.{ℕ, suc, ◌+◌, ◌-◌, ◌*◌, ◌/◌, ◌%◌, ◌^◌, ◌≤◌, ◌<◌}
use native.Mathlib.Nat.{zero-add, pow-suc, mul_assoc, mul-mod_left}
use native.Mathlib.Omega.{arith}
use borrow.Author.Tests.{ltb-true, lt-ltb, le-ltb}
use lib.Dec.{eqb, lit<}
use lib.Pow.{shl_exact, shl-shr, shr-shr, pow-add}
use lib.ListN.{length, length-append}
use Rattle.lists.specs.Lists.{filter, range}
use Rattle.lists.proofs.Members.{filter_append, filter_all, filter_none, filter_cong, range_append, range_out}
use Rattle.lists.proofs.Nodup.{length_range}
use Rattle.bits.specs.inner.Sets.{has, Subset, Difference}
use Rattle.bits.specs.inner.Visited.{listed, Lowest, Run, HasRun, WithoutRun}
use Rattle.bits.proofs.Digits.{full_has}
use Rattle.bits.proofs.Visiting.{has_bound}

-- The digits of a number that is shifted.
shr_has : (x a b : ℕ) → has (x / 2 ^ a) b ≡ has x (a + b)
shr_has x a b = ap (λ n. eqb (n % 2) 1) (shr-shr x a b)

shl_low : (y a b : ℕ) → b < a → has (y * 2 ^ a) b ≡ false
shl_low y a b l = let e : a ≡ suc (a - suc b) + b = omega arith in ap (λ k. has (y * 2 ^ k) b) e ∙ even (a - suc b)
  where
    even : (j : ℕ) → has (y * 2 ^ (suc j + b)) b ≡ false
    even j = rw (pow-add 2 (suc j) b, ← mul_assoc y (2 ^ suc j) (2 ^ b), shl-shr (y * 2 ^ suc j) b, pow-suc 2 j, ← mul_assoc y (2 ^ j) 2, mul-mod_left (y * 2 ^ j) 2) refl

shl_high : (y a b : ℕ) → a ≤ b → has (y * 2 ^ a) b ≡ has y (b - a)
shl_high y a b l =
    let e : b ≡ a + (b - a) = omega arith in
    ap (has (y * 2 ^ a)) e ∙ (sym (shr_has (y * 2 ^ a) a (b - a)) ∙ ap (λ n. has n (b - a)) (shl-shr y a))

-- Whether the set has them.
module _ (x a : ℕ) (fits : x < 2 ^ 64) (r : Bool) (S : Subset 255 (x / 2 ^ a) r) where
  pub eight_has : HasRun x a 8 r
  eight_has =
      record {
        run = λ t. let s = has_bound x (a + 7) fits (at_place t (a + 7) (omega arith) (omega arith)) in record { fits = omega arith; all = at_place t };
        all_run = λ R. S.all_inside (λ b t. let l = ltb-true b 8 (sym (full_has 8 b) ∙ t) in shr_has x a b ∙ R.all (a + b) (omega arith) (omega arith));
      }
    where
      at_place : r ≡ true → (b : ℕ) → a ≤ b → b < a + 8 → has x b ≡ true
      at_place t b l h =
          let e : b ≡ a + (b - a) = omega arith in
          ap (has x) e ∙ (sym (shr_has x a (b - a)) ∙ S.inside t (b - a) (full_has 8 (b - a) ∙ lt-ltb (b - a) 8 (omega arith)))

-- The set without them.
module _ (x a r : ℕ) (l : a + 8 ≤ 64) (D : Difference x (255 * 2 ^ a % 2 ^ 64) r) where
  mask : 255 * 2 ^ a % 2 ^ 64 ≡ 255 * 2 ^ a
  mask = shl_exact 8 a 64 (lit< tt) (omega arith)

  members : (b : ℕ) (p : Bool) → has (255 * 2 ^ a) b ≡ p → has r b ≡ (has x b && not p)
  members b p e = D.members b ∙ ap (λ (q : Bool). has x b && not q) (ap (λ n. has n b) mask ∙ e)

  pub eight_without : WithoutRun x a 8 r
  eight_without =
      record {
        gone = λ b m h. members b true (shl_high 255 a b m ∙ (full_has 8 (b - a) ∙ lt-ltb (b - a) 8 (omega arith))) ∙ and-false (has x b);
        below = λ b m. members b false (shl_low 255 a b m) ∙ and-true (has x b);
        above = λ b m. members b false (shl_high 255 a b (omega arith) ∙ (full_has 8 (b - a) ∙ le-ltb (b - a) 8 (omega arith))) ∙ and-true (has x b);
      }

-- The list of a set that starts with a run: the run, then the list of the set without it.
module _ (x a k r : ℕ) (L : Lowest x a) (R : Run x a k) (W : WithoutRun x a k r) where
  split : (y : ℕ) → ((b : ℕ) → b < a → has y b ≡ false) → listed y ≡ filter (has y) (range a k) ++ filter (has y) (range (a + k) (64 - (a + k)))
  unfolding listed
  split y f =
      let l = R.fits in
      let sum : a + (k + (64 - (a + k))) ≡ 64 = omega arith in
      let m = 64 - (a + k) in
      ap (λ n. filter (has y) (range 0 n)) (sym sum)
      ∙ (ap (filter (has y)) (range_append 0 a (k + m))
      ∙ (filter_append (has y) (range 0 a) (range (0 + a) (k + m))
      ∙ (ap (λ l. l ++ filter (has y) (range (0 + a) (k + m))) (filter_none (has y) (range 0 a) (λ b i. let o = (range_out 0 a b i).high in f b (omega arith)))
      ∙ (ap (λ i. filter (has y) (range i (k + m))) (zero-add a)
      ∙ (ap (filter (has y)) (range_append a k m) ∙ filter_append (has y) (range a k) (range (a + k) m))))))

  pub listed_run : listed x ≡ range a k ++ listed r
  listed_run =
      let high = range (a + k) (64 - (a + k)) in
      let long = split x L.first in
      let short = split r (λ b l. W.below b l ∙ L.first b l) in
      let all = filter_all (has x) (range a k) (λ b i. let o = range_out a k b i in R.all b o.low o.high) in
      let none = filter_none (has r) (range a k) (λ b i. let o = range_out a k b i in W.gone b o.low o.high) in
      let same = filter_cong (has x) (has r) high (λ b i. sym (W.above b (range_out (a + k) (64 - (a + k)) b i).low)) in
      long ∙ (ap (λ l. l ++ filter (has x) high) all ∙ ap (λ l. range a k ++ l) (same ∙ (sym (ap (λ l. l ++ filter (has r) high) none) ∙ sym short)))

  pub run_length : length (listed x) ≡ k + length (listed r)
  run_length = ap length listed_run ∙ (length-append (range a k) (listed r) ∙ ap (λ n. n + length (listed r)) (length_range a k))
