-- Laws of a row, and of the loop over the rows.
use mathlib.Core.Bool.{Bool, true, false, not, ◌&&◌, ◌||◌, and-true, and-false, or-false}
use mathlib.Core.List.{List}
use mathlib.Core.Path.{◌≡◌, refl, sym, ◌∙◌, ap}
use Prim.Native.Nat.{ℕ, suc, ◌+◌, ◌*◌, ◌/◌, ◌%◌, ◌^◌, ◌≤◌, ◌<◌}
use native.Mathlib.Nat.{add-mul, mod-lt, div-eq_of_lt, div-lt_iff_lt-mul, div-eq_of_lt-le}
use native.Mathlib.Omega.{arith}
use borrow.Author.Tests.{eqb-true, eqb-false, eq-eqb, ne_eqb, ltb-true, ltb-false}
use lib.Bits.{bit_or, bit_and, or_add_and, and_le_r}
use lib.Dec.{eqb, ltb}
use lib.ListN.{length, get_or, set, length-set}
use lib.Pow.{pow_pos, pow-lt, shr_mono, split}
use lib.Seq.{get_or-set_same, get_or-set_other}
use Rattle.lists.proofs.Bools.{by_bool, true_false, and_intro, and_left, and_right, or_right}
use Rattle.bits.specs.inner.Sets.{has, With, Without, Subset, Both}
use Rattle.bits.proofs.Digits.{or_has, or_grows, and_has, digits_same, power_has}
use Rattle.chain_rows.specs.inner.Subsets.{RowAfter, NextWith, TableAfter, Power}

stays : (x e h : Bool) → x ≡ (x || e && (h && false))
stays true e h = refl
stays false true true = refl
stays false true false = refl
stays false false h = refl

comes : (x e h : Bool) → h ≡ true → (e || x) ≡ (x || e && (h && true))
comes true true true t = refl
comes true false true t = refl
comes false true true t = refl
comes false false true t = refl
comes x e false t = absurd (true_false t refl)

-- The row of a set with i.
module _ (table : List ℕ) (S i after less : ℕ) (W : Without S i less) (t : has S i ≡ true) (both : ℕ) (B : Both after less both) (d : Bool) (K : Subset both (get_or table less 0) d) where
  pub row_covered : (r : ℕ) → d ≡ true → With (get_or table S 0) i r → RowAfter table S i after r
  row_covered r u A =
      record {
        less = less;
        falls = W.falls;
        without = W.members;
        covered = true;
        asked = λ _. (λ _ q g h. K.inside u q (B.members q ∙ and_intro g h), λ _. refl);
        members = λ p. A.members p ∙ comes (has (get_or table S 0) p) (eqb p i) (has S i) t;
      }

  pub row_lacking : d ≡ false → RowAfter table S i after (get_or table S 0)
  row_lacking u =
      record {
        less = less;
        falls = W.falls;
        without = W.members;
        covered = false;
        asked = λ _. (λ x. absurd (true_false x refl), λ h. absurd (true_false (K.all_inside (λ q g. let k = sym (B.members q) ∙ g in h q (and_left (has after q) (has less q) k) (and_right (has after q) (has less q) k))) u));
        members = λ p. stays (has (get_or table S 0) p) (eqb p i) (has S i);
      }

-- The row of a set without i stays as it is.
row_idle : (table : List ℕ) (S i after : ℕ) → has S i ≡ false → RowAfter table S i after (get_or table S 0)
row_idle table S i after f =
    record {
      less = S;
      falls = omega arith;
      without = λ q. by_bool (eqb q i) (λ t. ap (has S) (eqb-true q i t) ∙ (f ∙ sym (ap (λ (x : Bool). has S q && not x) t ∙ and-false (has S q)))) (λ u. sym (ap (λ (x : Bool). has S q && not x) u ∙ and-true (has S q)));
      covered = false;
      asked = λ t. absurd (true_false t f);
      members = λ p. stays (has (get_or table S 0) p) (eqb p i) (has S i);
    }

-- The sets with i, in their order: the first is 2 ^ i.
below_first : (i T : ℕ) → T < 2 ^ i → has T i ≡ false
below_first i T l = rw (div-eq_of_lt l) refl

module _ (S i : ℕ) (t : has S i ≡ true) where
  -- Where the number behind S has i, it is the next set.
  near : has (S + 1) i ≡ true → bit_or (S + 1) (2 ^ i) ≡ S + 1
  near h =
      let sum = or_add_and (S + 1) (2 ^ i) in
      let one = digits_same (suc i) (bit_and (S + 1) (2 ^ i)) (2 ^ i) (let k = and_le_r (S + 1) (2 ^ i) in let l = pow-lt {i = i} {j = suc i} (omega arith) in omega arith) (pow-lt (omega arith)) (λ a.
      and_has (S + 1) (2 ^ i) a ∙ by_bool (eqb a i)
      (λ q. ap (λ n. has (S + 1) n && has (2 ^ i) a) (eqb-true a i q) ∙ ap (λ (x : Bool). x && has (2 ^ i) a) h)
      (λ q. let z = power_has i a ∙ q in ap (λ (x : Bool). has (S + 1) a && x) z ∙ (and-false (has (S + 1) a) ∙ sym z))) in
      omega arith

  -- Where it lacks i, it is the first of 2 ^ i numbers that do.
  module _ (f : has (S + 1) i ≡ false) where
    abbrev u : ℕ
    u = S / 2 ^ i

    abbrev v : ℕ
    v = (S + 1) / 2 ^ i

    follows : v ≡ u + 1
    follows =
        let odd = eqb-true (u % 2) 1 t in
        let even = eqb-false (v % 2) 1 f in
        let low = shr_mono {a = S} {b = S + 1} i (omega arith) in
        let h = split S i in
        let r = mod-lt S (pow_pos i) in
        let k = add-mul u 2 (2 ^ i) in
        let high = (div-lt_iff_lt-mul {k = 2 ^ i} {x = S + 1} {y = u + 2} (pow_pos i)).1 (omega arith) in
        omega arith

    far : (T : ℕ) → S < T → T < S + 1 + 2 ^ i → has T i ≡ false
    far T l m =
        let h = split S i in
        let r = mod-lt S (pow_pos i) in
        let g = split (S + 1) i in
        let k = ap (λ n. n * 2 ^ i) follows ∙ add-mul u 1 (2 ^ i) in
        let j = add-mul v 1 (2 ^ i) in
        ap (λ n. eqb (n % 2) 1) (div-eq_of_lt-le {k = v} (2 ^ i) {m = T} (omega arith) (omega arith)) ∙ f

  pub next_is : (p : ℕ) → Power i p → NextWith S i (bit_or (S + 1) p)
  next_is p N =
      rw N.is
      (record {
        rises = let h = or_grows (S + 1) (2 ^ i) in omega arith;
        own = or_has (S + 1) (2 ^ i) i ∙ or_right (has (S + 1) i) (power_has i i ∙ eq-eqb i i refl);
        between = λ T l m. by_bool (has (S + 1) i) (λ h. let e = near h in absurd (omega arith)) (λ f. far f T l (let sum = or_add_and (S + 1) (2 ^ i) in omega arith));
      })

-- The rows below S, a set with i, are done.
pub record Stepping (old : List ℕ) (i after S : ℕ) (cur : List ℕ) : Type 0 where
  pub long : length cur ≡ length old
  pub own : has S i ≡ true
  pub done : (T : ℕ) → T < S → RowAfter old T i after (get_or cur T 0)
  pub left : (T : ℕ) → S ≤ T → get_or cur T 0 ≡ get_or old T 0

module _ (old : List ℕ) (i after : ℕ) where
  pub stepping_start : (S : ℕ) → Power i S → Stepping old i after S old
  stepping_start S N =
      let e = N.is in
      record {
        long = refl;
        own = ap (λ n. has n i) e ∙ (power_has i i ∙ eq-eqb i i refl);
        done = λ T l. row_idle old T i after (below_first i T (omega arith));
        left = λ T l. refl;
      }

  -- A row of a set without i has its other places as before.
  others : (T r : ℕ) → RowAfter old T i after r → (q : ℕ) → (q ≡ i → ⊥) → has r q ≡ has (get_or old T 0) q
  others T r R q ne = R.members q ∙ (ap (λ (x : Bool). has (get_or old T 0) q || x && (has T i && R.covered)) (ne_eqb q i ne) ∙ or-false (has (get_or old T 0) q))

  pub stepping_turn : (S r next : ℕ) (cur : List ℕ) → Stepping old i after S cur → S < length old → RowAfter cur S i after r → NextWith S i next → Stepping old i after next (set cur S r)
  stepping_turn S r next cur K l R N =
      let n = N.rises in
      record {
        long = length-set cur S r ∙ K.long;
        own = N.own;
        done = λ T m. by_bool (ltb T S)
            (λ q. let k = ltb-true T S q in rw (get_or-set_other cur S T r 0 (λ e. absurd (omega arith))) (K.done T k))
            (λ q. let k = ltb-false T S q in by_bool (eqb T S) (λ q. here T (eqb-true T S q))
            (λ q. let ne = eqb-false T S q in
            rw (later T (omega arith)) (row_idle old T i after (N.between T (omega arith) m))));
        left = λ T m. later T (omega arith);
      }
    where
      later : (T : ℕ) → S < T → get_or (set cur S r) T 0 ≡ get_or old T 0
      later T m = get_or-set_other cur S T r 0 (λ e. absurd (omega arith)) ∙ K.left T (omega arith)

      less_below : has S i ≡ true → R.less < S
      less_below t = by_bool (eqb R.less S)
          (λ q. absurd (true_false (ap (λ n. has n i) (eqb-true R.less S q) ∙ t) (R.without i ∙ ap (λ (x : Bool). has S i && not x) (eq-eqb i i refl) ∙ and-false (has S i))))
          (λ q. let f = R.falls in let ne = eqb-false R.less S q in omega arith)

      same_less : has S i ≡ true → (q : ℕ) → has R.less q ≡ true → has (get_or cur R.less 0) q ≡ has (get_or old R.less 0) q
      same_less t q g =
          others R.less (get_or cur R.less 0) (K.done R.less (less_below t)) q
          (λ e. true_false (and_right (has S q) (not (eqb q i)) (sym (R.without q) ∙ g)) (ap not (eq-eqb q i e)))

      moved : RowAfter old S i after r
      moved =
          record {
            less = R.less;
            falls = R.falls;
            without = R.without;
            covered = R.covered;
            asked = λ t. (
              λ u q g h. sym (same_less t q h) ∙ (R.asked t).0 u q g h,
              λ f. (R.asked t).1 (λ q g h. same_less t q h ∙ f q g h),
            );
            members = λ p. R.members p ∙ ap (λ n. has n p || eqb p i && (has S i && R.covered)) (K.left S (omega arith));
          }

      here : (T : ℕ) → T ≡ S → RowAfter old T i after (get_or (set cur S r) T 0)
      here T e = rw (e, get_or-set_same cur S r 0 (let e = K.long in omega arith)) moved

  pub stepping_end : (S size : ℕ) (cur : List ℕ) → Stepping old i after S cur → size ≤ S → TableAfter old size i after cur
  stepping_end S size cur K l = record { rows = λ T m. K.done T (omega arith) }
