-- Laws of tables of variables and of the loops that fill them.
use mathlib.Core.Bool.{cond, and-true, and-false}
use mathlib.Core.List.{List, map}
use mathlib.Core.Path.{◌≡◌, refl, sym, ◌∙◌, ap}
use Prim.Native.Nat.{ℕ, ◌<◌}
use native.Mathlib.Omega.{arith}
use borrow.Author.Tests.{eqb-true, eqb-false}
use lib.Dec.{eqb}
use lib.ListN.{length, get_or, set, length-set}
use lib.Seq.{get_or-set_same, get_or-set_other}
use Rattle.lists.specs.Lists.{range}
use Rattle.lists.proofs.Bools.{by_bool}
use Rattle.lists.proofs.Members.{map_cong, filter_out, range_out}
use Rattle.unfolding.specs.Unfolded.{last}
use Rattle.bits.specs.inner.Sets.{has}
use Rattle.bits.specs.inner.Visited.{listed, Lowest, Rest}
use Rattle.copies.specs.inner.Tables.{Values}

-- A value after a store.
pub stored : (l : List ℕ) (i v b : ℕ) → i < length l → get_or (set l i v) b 0 ≡ cond (eqb b i) v (get_or l b 0)
stored l i v b h =
    by_bool (eqb b i)
    (λ t. rw t (ap (λ j. get_or (set l i v) j 0) (eqb-true b i t) ∙ get_or-set_same l i v 0 h))
    (λ f. rw f (get_or-set_other l i b v 0 (eqb-false b i f)))

-- The loop over a set whose values are put into a table: with those that are left, the table is the one wanted.
pub record Overlaying (set-of : ℕ) (source old : List ℕ) (left : ℕ) (cur : List ℕ) : Type 0 where
  pub long : length cur ≡ length old
  pub is : (b : ℕ) → b < 64 → cond (has left b) (get_or source b 0) (get_or cur b 0) ≡ cond (has set-of b) (get_or source b 0) (get_or old b 0)

module _ (set-of : ℕ) (source old : List ℕ) where
  module _ (left : ℕ) (cur : List ℕ) (O : Overlaying set-of source old left cur) where
    pub overlay_turn : (a r : ℕ) → length old ≡ 64 → Lowest left a → Rest left r → Overlaying set-of source old r (set cur a (get_or source a 0))
    overlay_turn a r w L R =
        record {
          long = length-set cur a (get_or source a 0) ∙ O.long;
          is = λ b l. let k = O.long in let h = L.low in
              rw (stored cur a (get_or source a 0) b (omega arith), (R.without a L).members b)
              (by_bool (eqb b a)
              (λ t. let e = eqb-true b a t in rw t (rw (and-false (has left b)) (ap (λ x. get_or source x 0) (sym e) ∙ (sym (rw (ap (has left) e ∙ L.is) refl) ∙ O.is b l))))
              (λ f. rw f (rw (and-true (has left b)) (O.is b l))));
        }

-- A table of last copies: what it has for a set's atoms.
pub listed_last : (lasts : List ℕ) (x : ℕ) → Values last lasts → map (λ b. get_or lasts b 0) (listed x) ≡ map last (listed x)
unfolding listed
listed_last lasts x L = map_cong (λ b. get_or lasts b 0) last (listed x) (λ b m. L.is b (range_out 0 64 b (filter_out (has x) (range 0 64) b m).0).high)
