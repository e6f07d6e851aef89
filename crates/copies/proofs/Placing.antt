-- Laws of the last entries of atoms.
use mathlib.Core.Bool.{true, not, cond}
use mathlib.Core.List.{List, [], ◌∷◌}
use mathlib.Core.Path.{◌≡◌, refl, sym, ◌∙◌, ap, subst}
use Prim.Native.Nat.{ℕ, zero, suc, ◌+◌, ◌-◌, ◌≤◌, ◌<◌}
use native.Mathlib.Omega.{arith}
use borrow.Author.Tests.{eqb-true, eqb-false, eq-eqb, ne_eqb}
use lib.Dec.{eqb}
use lib.ListN.{length, get_or, drop, length-drop, set, length-set}
use lib.Seq.{get_or-drop}
use Rattle.lists.specs.Lists.{any, below, member}
use Rattle.lists.proofs.Bools.{by_bool, bool_ext, true_false, not_intro}
use Rattle.lists.proofs.Members.{member_out, below_at}
use Rattle.sheet.specs.Sequence.{entries}
use Rattle.copies.specs.inner.Made.{again, LastPlaces}
use Rattle.copies.proofs.Tables.{stored}

-- A member stands at an index, and what stands at an index is a member.
get_member : (l : List ℕ) (i : ℕ) → i < length l → member (get_or l i 0) l ≡ true
unfolding member any
get_member [] i h = absurd (omega arith)
get_member (x ∷ l) zero h = rw (eq-eqb x x refl) refl
get_member (x ∷ l) (suc i) h = by_bool (eqb (get_or l i 0) x) (λ t. rw t refl) (λ f. rw f (get_member l i (omega arith)))

below_get : (n : ℕ) (l : List ℕ) (i : ℕ) → below n l ≡ true → i < length l → get_or l i 0 < n
below_get n l i e h = below_at n l e (get_or l i 0) (member_out (get_or l i 0) l (get_member l i h))

member_get : (a : ℕ) (l : List ℕ) → member a l ≡ true → (i : ℕ) × (i < length l) × (get_or l i 0 ≡ a)
unfolding member any
member_get a [] e = absurd (true_false e refl)
member_get a (x ∷ l) e =
    by_bool (eqb a x)
    (λ t. (0, omega arith, sym (eqb-true a x t)))
    (λ f. let u = member_get a l (rw f at e) in let h = u.1 in (suc u.0, omega arith, u.2))

module _ (q : List ℕ) (i n : ℕ) (from : 3 ≤ i) (within : i < length q) where
  pub entry_below : below n (entries q) ≡ true → get_or q i 0 < n
  entry_below low =
      subst (λ j. get_or q j 0 < n) (let e : 3 + (i - 3) ≡ i = omega arith in e)
      (subst (λ x. x < n) (get_or-drop 3 q (i - 3) 0) (below_get n (entries q) (i - 3) low (let d = length-drop 3 q in omega arith)))

-- The entries before j have been seen: the place of an entry's atom is not before the entry, and that atom stands there.
pub record Placing (q : List ℕ) (j : ℕ) (places : List ℕ) : Type 0 where
  pub from : 3 ≤ j
  pub long : length places ≡ 64
  pub late : (i : ℕ) → 3 ≤ i → i < j → i ≤ get_or places (get_or q i 0) 0
  pub seen : (i : ℕ) → 3 ≤ i → i < j → get_or places (get_or q i 0) 0 < j
  pub same : (i : ℕ) → 3 ≤ i → i < j → get_or q (get_or places (get_or q i 0) 0) 0 ≡ get_or q i 0

module _ (q : List ℕ) where
  module _ (j : ℕ) (places : List ℕ) (K : Placing q j places) where
    module _ (a : ℕ) (A : a ≡ get_or q j 0) (low : below 64 (entries q) ≡ true) (within : j < length q) where
      pub placing_low : a < 64
      placing_low = let l = entry_below q j 64 K.from within low in omega arith

      abbrev value : ℕ → ℕ
      value i = get_or (set places a j) (get_or q i 0) 0

      is : (i : ℕ) → value i ≡ cond (eqb (get_or q i 0) a) j (get_or places (get_or q i 0) 0)
      is i = let w = K.long in let l = placing_low in stored places a j (get_or q i 0) (omega arith)

      older : (i : ℕ) → i < j + 1 → (get_or q i 0 ≡ a → ⊥) → i < j
      older i h ne = by_bool (eqb i j) (λ t. absurd (ne (ap (λ x. get_or q x 0) (eqb-true i j t) ∙ sym A))) (λ f. let g = eqb-false i j f in omega arith)

      pub placing_turn : Placing q (j + 1) (set places a j)
      placing_turn =
          record {
            from = let f = K.from in omega arith;
            long = length-set places a j ∙ K.long;
            late = λ i l h. subst (λ x. i ≤ x) (sym (is i))
                (by_bool (eqb (get_or q i 0) a) (λ t. rw t (omega arith)) (λ f. rw f (K.late i l (older i h (eqb-false (get_or q i 0) a f)))));
            seen = λ i l h. subst (λ x. x < j + 1) (sym (is i))
                (by_bool (eqb (get_or q i 0) a) (λ t. rw t (omega arith)) (λ f. rw f (let s = K.seen i l (older i h (eqb-false (get_or q i 0) a f)) in omega arith)));
            same = λ i l h. subst (λ x. get_or q x 0 ≡ get_or q i 0) (sym (is i))
                (by_bool (eqb (get_or q i 0) a) (λ t. rw t (sym A ∙ sym (eqb-true (get_or q i 0) a t))) (λ f. rw f (K.same i l (older i h (eqb-false (get_or q i 0) a f)))));
          }

    pub placing_end : length q ≤ j → 3 ≤ length q → (3 ≤ length q → j ≤ length q) → LastPlaces q places
    unfolding again
    placing_end l f h = record { more = λ i f w. bool_ext (further i f w) (nearer i f w) }
      where
        further : (i : ℕ) → 3 ≤ i → i < length q → not (eqb (get_or places (get_or q i 0) 0) i) ≡ true → member (get_or q i 0) (drop (i + 1) q) ≡ true
        further i f w t =
            let p = get_or places (get_or q i 0) 0 in
            let u = K.late i f (omega arith) in
            let v = K.seen i f (omega arith) in
            let ne = eqb-false p i (by_bool (eqb p i) (λ y. absurd (true_false t (rw y refl))) (λ z. z)) in
            let d = length-drop (i + 1) q in
            let sum : i + 1 + (p - (i + 1)) ≡ p = omega arith in
            let e : get_or (drop (i + 1) q) (p - (i + 1)) 0 ≡ get_or q i 0 = get_or-drop (i + 1) q (p - (i + 1)) 0 ∙ (ap (λ x. get_or q x 0) sum ∙ K.same i f (omega arith)) in
            subst (λ x. member x (drop (i + 1) q) ≡ true) e (get_member (drop (i + 1) q) (p - (i + 1)) (omega arith))

        nearer : (i : ℕ) → 3 ≤ i → i < length q → member (get_or q i 0) (drop (i + 1) q) ≡ true → not (eqb (get_or places (get_or q i 0) 0) i) ≡ true
        nearer i f w t =
            let u = member_get (get_or q i 0) (drop (i + 1) q) t in
            let k = i + 1 + u.0 in
            let e : get_or q k 0 ≡ get_or q i 0 = sym (get_or-drop (i + 1) q u.0 0) ∙ u.2 in
            let b = u.1 in
            let d = length-drop (i + 1) q in
            let late : k ≤ get_or places (get_or q k 0) 0 = K.late k (omega arith) (omega arith) in
            let there = ap (λ x. get_or places x 0) e in
            not_intro (ne_eqb (get_or places (get_or q i 0) 0) i (λ z. omega arith))
