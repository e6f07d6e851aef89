-- What a set that lacks a place says of the chains within it.
use mathlib.Core.Bool.{true}
use mathlib.Core.List.{List, ◌∷◌, map, Nodup, Memᴰ, Sublistᴰ}
use mathlib.Core.Path.{◌≡◌, refl, sym, ◌∙◌, subst}
use Prim.Native.Nat.{ℕ, ◌^◌, ◌≤◌, ◌<◌}
use native.Mathlib.Omega.{arith}
use borrow.Author.Tests.{ltb-true, lt-ltb}
use lib.Dec.{ltb}
use lib.ListN.{length, get_or, length-map}
use Rattle.lists.specs.Lists.{member, range}
use Rattle.lists.proofs.Bools.{by_bool, true_false, and_intro, and_left, and_right}
use Rattle.lists.proofs.Members.{filter_in, member_in, member_out, range_in}
use Rattle.lists.proofs.Nodup.{nodup_le, nodup_map}
use Rattle.asp.specs.Program.{Program}
use Rattle.unfolding.specs.Chain.{Chain}
use Rattle.bits.specs.inner.Sets.{has}
use Rattle.bits.specs.inner.Visited.{listed}
use Rattle.bits.proofs.Digits.{inside_le}
use Rattle.bits.proofs.Listing.{listed_own, listed_differ}
use Rattle.bits.proofs.Chosen.{set_by, set_by_small, set_by_has}
use Rattle.chain_rows.specs.inner.Subsets.{Setting, AtPlaces, SubsetTable}
use Rattle.missing_places.specs.inner.Lacking.{Lacks}

module _ (P : Program) (rows atoms : List ℕ) (k : ℕ) (K : Setting P rows atoms k) (few : k ≤ 10) where
  abbrev atom : ℕ → ℕ
  atom p = get_or atoms p 0

  -- The places of a list of atoms.
  module _ (w : List ℕ) where
    abbrev places : ℕ
    places = set_by k (λ q. member (atom q) w)

    place_in : (q : ℕ) → q < k → Memᴰ (atom q) w → has places q ≡ true
    place_in q l m = set_by_has k (λ q. member (atom q) w) q ∙ and_intro (lt-ltb q k l) (member_in (atom q) w m)

    place_low : (q : ℕ) → has places q ≡ true → q < k
    place_low q t = ltb-true q k (and_left (ltb q k) (member (atom q) w) (sym (set_by_has k (λ q. member (atom q) w) q) ∙ t))

    place_out : (q : ℕ) → has places q ≡ true → Memᴰ (atom q) w
    place_out q t = member_out (atom q) w (and_right (ltb q k) (member (atom q) w) (sym (set_by_has k (λ q. member (atom q) w) q) ∙ t))

    -- They are no more than the atoms.
    few_places : length (listed places) ≤ length w
    few_places =
        let short = nodup_le (map atom (listed places)) w
        (nodup_map atom (listed places) (λ p q m n e. K.apart p q (place_low p (listed_own places p m)) (place_low q (listed_own places q n)) e) (listed_differ places))
        (λ b m. let u = mathlib.Core.List.Memᴰ.of_map atom (listed places) m in subst (λ c. Memᴰ c w) u.2 (place_out u.0 (listed_own places u.0 u.1))) in
        let same = length-map (listed places) atom in
        omega arith

  -- Different atoms of a set are no more than its places.
  inside_few : (T : ℕ) (w : List ℕ) → Nodup w → ((b : ℕ) → Memᴰ b w → AtPlaces atoms k T b) → length w ≤ length (listed T)
  unfolding listed
  inside_few T w different inside =
      let short = nodup_le w (map atom (listed T)) different (λ b m.
      let u = inside b m in
      subst (λ c. Memᴰ c (map atom (listed T))) u.2 (mathlib.Core.List.Memᴰ.map atom (filter_in (has T) (range 0 64) u.0 (let l = u.1 in range_in 0 64 u.0 (omega arith) (omega arith)) u.3))) in
      let same = length-map (listed T) atom in
      omega arith

  module _ (table s : List ℕ) (filled : SubsetTable P atoms k table s) (U m p : ℕ) (small : U < 2 ^ k) (low : p < k) where
    -- Where no set lacks the place, the chains from it of at most m atoms are found.
    module _ (none : (T : ℕ) → T ≤ U → Lacks table U m p T → ⊥) (w : List ℕ) (C : Chain P (atom p ∷ w)) (inside : (b : ℕ) → Memᴰ b (atom p ∷ w) → AtPlaces atoms k U b)
        (short : length (atom p ∷ w) ≤ m) where
      abbrev T : ℕ
      T = places (atom p ∷ w)

      t_small : T < 2 ^ k
      t_small = set_by_small k (λ q. member (atom q) (atom p ∷ w))

      own : has T p ≡ true
      own = place_in (atom p ∷ w) p low (mathlib.Core.List.Memᴰ.head refl)

      t_inside : (q : ℕ) → has T q ≡ true → has U q ≡ true
      t_inside q t =
          let u = inside (atom q) (place_out (atom p ∷ w) q t) in
          subst (λ j. has U j ≡ true) (K.apart u.0 q u.1 (place_low (atom p ∷ w) q t) u.2) u.3

      pub found_unless : Sublistᴰ (atom p ∷ w) s
      found_unless =
          by_bool (has (get_or table T 0) p)
          (λ t. (filled.right T t_small p low own).0 t w C (λ b n.
          let u = inside b n in
          (u.0, u.1, u.2, place_in (atom p ∷ w) u.0 u.1 (subst (λ c. Memᴰ c (atom p ∷ w)) (sym u.2) n))))
          (λ f. absurd (none T (inside_le k T U t_small small t_inside) (record { inside = t_inside; few = let e = few_places (atom p ∷ w) in omega arith; own = own; lacks = f })))

    -- Where a set lacks it, they are not.
    pub lacking_fails : (T : ℕ) → T ≤ U → Lacks table U m p T
        → ((w : List ℕ) → Chain P (atom p ∷ w) → ((b : ℕ) → Memᴰ b (atom p ∷ w) → AtPlaces atoms k U b) → length (atom p ∷ w) ≤ m → Sublistᴰ (atom p ∷ w) s) → ⊥
    lacking_fails T l L found =
        true_false
        ((filled.right T (omega arith) p low L.own).1 (λ w C inside.
        found w C (λ b n. let u = inside b n in (u.0, u.1, u.2, L.inside u.0 u.3))
        (let e = inside_few T (atom p ∷ w) C.different inside in let f = L.few in omega arith)))
        L.lacks
