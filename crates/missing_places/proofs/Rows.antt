-- Laws of what the table's rows lack, and of the loops over them.
use mathlib.Core.Bool.{Bool, true, false, not}
use mathlib.Core.List.Memᴰ
use mathlib.Core.List.{List, [], ◌∷◌, Memᴰ}
use mathlib.Core.Logic.{⊎_elim}
use mathlib.Core.Path.{◌≡◌, sym, ◌∙◌, subst}
use Prim.Native.Nat.{ℕ, ◌+◌, ◌^◌, ◌≤◌, ◌<◌}
use native.Mathlib.Omega.{arith}
use borrow.Author.Tests.{eqb-true, eqb-false}
use lib.Count.{count_trailing_zeros}
use lib.Dec.{eqb}
use lib.ListN.{length, get_or}
use Rattle.lists.specs.Lists.{range}
use Rattle.lists.proofs.Bools.{by_bool, true_false, and_intro, and_left, and_right, or_cases, or_left, or_right, not_intro, not_elim}
use Rattle.lists.proofs.Members.{filter_in, range_in}
use Rattle.bits.specs.inner.Sets.{has, Subset, Size, Difference, Both, Either}
use Rattle.bits.specs.inner.Visited.{listed}
use Rattle.bits.proofs.Digits.{zero_has, inside_le}
use Rattle.bits.proofs.Visiting.{has_some, has_bound, trailing_lowest}
use Rattle.missing_places.specs.inner.Lacking.{Lacks, LackingIn, Lacking, Shortest, ShortestAt}

-- One set.
module _ (table : List ℕ) (U m T : ℕ) where
  no_place : (p : ℕ) → has 0 p ≡ true → Lacks table U m p T
  no_place p t = absurd (true_false t (zero_has p))

  module _ (b : Bool) (S : Subset T U b) where
    pub lacking_outside : b ≡ false → LackingIn table U m T 0
    lacking_outside f = record { out = no_place; back = λ p K. absurd (true_false (S.all_inside K.inside) f) }

    module _ (z : ℕ) (Z : Size T z) where
      pub lacking_large : m < z → LackingIn table U m T 0
      unfolding listed
      lacking_large l = record { out = no_place; back = λ p K. absurd (let f = K.few in let e = Z.is in omega arith) }

      pub lacking_row : (r : ℕ) → b ≡ true → z ≤ m → Difference T (get_or table T 0) r → LackingIn table U m T r
      unfolding listed
      lacking_row r t l D =
          record {
            out = λ p h.
                let u = sym (D.members p) ∙ h in
                record {
                  inside = S.inside t;
                  few = let e = Z.is in omega arith;
                  own = and_left (has T p) (not (has (get_or table T 0) p)) u;
                  lacks = not_elim (and_right (has T p) (not (has (get_or table T 0) p)) u);
                };
            back = λ p K. D.members p ∙ and_intro K.own (not_intro K.lacks);
          }

-- The sets below S.
pub record Below (table : List ℕ) (U m S r : ℕ) : Type 0 where
  pub out : (p : ℕ) → has r p ≡ true → (T : ℕ) × (T < S) × Lacks table U m p T
  pub back : (p T : ℕ) → T < S → Lacks table U m p T → has r p ≡ true

module _ (table : List ℕ) (U m : ℕ) where
  pub below_start : Below table U m 0 0
  below_start = record { out = λ p t. absurd (true_false t (zero_has p)); back = λ p T l K. absurd (omega arith) }

  -- The set S too: what is added are places that sets up to S lack, all that S lacks among them.
  below_next : (S old one new : ℕ) → Below table U m S old → ((p : ℕ) → has one p ≡ true → (T : ℕ) × (T < S + 1) × Lacks table U m p T)
      → ((p : ℕ) → Lacks table U m p S → has one p ≡ true) → Either old one new → Below table U m (S + 1) new
  below_next S old one new B out back E =
      record {
        out = λ p t. ⊎_elim (λ h. let u = B.out p h in (u.0, let l = u.1 in omega arith, u.2)) (out p) (or_cases (has old p) (has one p) (sym (E.members p) ∙ t));
        back = λ p T l K. E.members p ∙ by_bool (eqb T S)
            (λ q. or_right (has old p) (back p (rw (eqb-true T S q) at K)))
            (λ q. let ne = eqb-false T S q in or_left (has one p) (B.back p T (omega arith) K));
      }

  pub below_end : (S r : ℕ) → Below table U m S r → S ≡ U + 1 → Lacking table U m r
  below_end S r B e =
      record {
        out = λ p t. let u = B.out p t in (u.0, let k = u.1 in omega arith, u.2);
        back = λ p T k K. B.back p T (omega arith) K;
      }

  -- What is added is what S lacks.
  pub below_turn : (S old one new : ℕ) → Below table U m S old → LackingIn table U m S one → Either old one new → Below table U m (S + 1) new
  below_turn S old one new B L E = below_next S old one new B (λ p h. (S, omega arith, L.out p h)) L.back E

  -- The set U is the last.
  pub below_last : (S old one new : ℕ) → Below table U m S old → LackingIn table U m S one → Either old one new → S ≡ U → Lacking table U m new
  below_last S old one new B L E e = below_end (S + 1) new (below_turn S old one new B L E) (omega arith)

  -- What the set S has of U.
  module _ (S part : ℕ) (I : Both S U part) (low : S ≤ U) (small : U < 2 ^ 64) (part_small : part < 2 ^ 64) where
    pub part_low : part ≤ S
    part_low = inside_le 64 part S part_small (omega arith) (λ p t. and_left (has S p) (has U p) (sym (I.members p) ∙ t))

    part_whole : ((p : ℕ) → has S p ≡ true → has U p ≡ true) → part ≡ S
    part_whole inside =
        let one = part_low in
        let other = inside_le 64 S part (omega arith) part_small (λ p t. I.members p ∙ and_intro t (inside p t)) in
        omega arith

    -- What is added is what the part lacks: all that S lacks, where S lies in U.
    pub part_turn : (old one new : ℕ) → Below table U m S old → LackingIn table U m part one → Either old one new → Below table U m (S + 1) new
    part_turn old one new B L E =
        below_next S old one new B
        (λ p h. (part, let l = part_low in omega arith, L.out p h))
        (λ p K. L.back p (subst (Lacks table U m p) (sym (part_whole K.inside)) K))
        E

    -- The set U is the last.
    pub part_last : (old one new : ℕ) → Below table U m S old → LackingIn table U m part one → Either old one new → S ≡ U → Lacking table U m new
    part_last old one new B L E e = below_end (S + 1) new (part_turn old one new B L E) (omega arith)

-- No set of fewer than m places lacks one.
pub record NoneBelow (table : List ℕ) (U m : ℕ) : Type 0 where
  pub none : (j : ℕ) → j < m → (p T : ℕ) → T ≤ U → Lacks table U j p T → ⊥

module _ (table : List ℕ) (U k : ℕ) where
  no_member : (l : List ℕ) (p : ℕ) → Memᴰ p l → length l ≤ 0 → ⊥
  no_member [] p m e = Memᴰ.not-nil m
  no_member (q ∷ l) p m e = absurd (omega arith)

  -- A set that lacks a place has one.
  pub none_start : U < 2 ^ 64 → NoneBelow table U 1
  unfolding listed
  none_start small =
      record {
        none = λ j l p T h K.
            let low = has_bound T p (omega arith) K.own in
            let few = K.few in
            no_member (listed T) p (filter_in (has T) (range 0 64) p (range_in 0 64 p (omega arith) (omega arith)) K.own) (omega arith);
      }

  pub none_turn : (m r : ℕ) → NoneBelow table U m → Lacking table U m r → r ≡ 0 → NoneBelow table U (m + 1)
  none_turn m r N L e =
      record {
        none = λ j l p T h K. by_bool (eqb j m)
            (λ q. let some = has_some r p (L.back p T h (rw (eqb-true j m q) at K)) in absurd (omega arith))
            (λ q. let ne = eqb-false j m q in N.none j (omega arith) p T h K);
      }

  pub none_end : (m : ℕ) → NoneBelow table U m → k ≤ m → Shortest table U k k
  none_end m N h = record { none = λ j i. N.none j (omega arith); some = λ i. absurd (omega arith) }

  -- A set of numbers that is not 0 has one.
  pub none_found : (m r : ℕ) → NoneBelow table U m → m < k → Lacking table U m r → r < 2 ^ 64 → (r ≡ 0 → ⊥) → Shortest table U k m
  none_found m r N l L h ne =
      let a = trailing_lowest r (omega arith) h in
      record { none = N.none; some = λ _. let u = L.out (count_trailing_zeros 64 r) a.is in (count_trailing_zeros 64 r, u.0, u.1, u.2) }

  -- The same two, with the places.
  pub none_end_at : (m r : ℕ) → NoneBelow table U m → k ≤ m → Lacking table U k r → ShortestAt table U k (record { length = k; places = r })
  none_end_at m r N h L = record { shortest = none_end m N h; places = L }

  pub none_found_at : (m r : ℕ) → NoneBelow table U m → m < k → Lacking table U m r → r < 2 ^ 64 → (r ≡ 0 → ⊥) → ShortestAt table U k (record { length = m; places = r })
  none_found_at m r N l L h ne = record { shortest = none_found m r N l L h ne; places = L }
