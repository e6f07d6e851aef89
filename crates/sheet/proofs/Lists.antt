-- Laws of questions 5 and 6, one for each way out of their tests.
use mathlib.Core.Bool.{Bool, true, false, ◌&&◌, ◌||◌, or-false}
use mathlib.Core.List.{List, [], ◌∷◌}
use mathlib.Core.Path.{◌≡◌, refl, sym, ◌∙◌, ap}
use Prim.Native.Nat.{ℕ, suc, ◌+◌, ◌≤◌, ◌<◌}
use native.Mathlib.Numerals.{add-one}
use native.Mathlib.Omega.{arith}
use borrow.Author.Tests.{ne_eqb, lt-ltb, le-ltb, le-leb, lt-leb}
use lib.Dec.{eqb, ltb, leb}
use lib.ListN.{get_or, length, drop, drop_of_length-le}
use lib.Seq.{drop-cons}
use Rattle.lists.specs.Lists.{all, below}
use Rattle.lists.proofs.Bools.{by_bool}
use Rattle.bits.proofs.Rising.{climb}
use Rattle.sheet.specs.Format.{kind_fits, rising, list_fits}

pub kind_rule : (n k h : ℕ) → k ≡ 0 → ltb h n ≡ kind_fits n k h
unfolding kind_fits
kind_rule n k h e = rw e (sym (or-false (ltb h n || false) ∙ or-false (ltb h n)))

pub kind_constraint : (n k h : ℕ) → k ≡ 1 → eqb h 0 ≡ kind_fits n k h
unfolding kind_fits
kind_constraint n k h e = rw e (sym (or-false (eqb h 0)))

pub kind_choice : (n k h : ℕ) → k ≡ 2 → ltb h n ≡ kind_fits n k h
unfolding kind_fits
kind_choice n k h e = rw e refl

pub kind_other : (n k h : ℕ) → (k ≡ 0 → ⊥) → (k ≡ 1 → ⊥) → (k ≡ 2 → ⊥) → false ≡ kind_fits n k h
unfolding kind_fits
kind_other n k h p q r = rw (ne_eqb k 0 p, ne_eqb k 1 q, ne_eqb k 2 r) refl

-- Behind an element a.
climb_behind : (n a : ℕ) (l : List ℕ) → climb (suc a) n l ≡ (below n l && rising (a ∷ l))
unfolding climb below all rising
climb_behind n a [] = refl
climb_behind n a (x ∷ l) =
    ap (λ (y : Bool). ltb a x && (ltb x n && y)) (climb_behind n x l)
    ∙ by_bool (ltb a x) (λ t. rw t (by_bool (ltb x n) (λ u. rw u refl) (λ u. rw u refl)))
    (λ t. rw t (by_bool (ltb x n && below n l) (λ u. rw u refl) (λ u. rw u refl)))

pub climb_is : (n : ℕ) (l : List ℕ) → climb 0 n l ≡ list_fits n l
unfolding climb list_fits below all rising
climb_is n [] = refl
climb_is n (x ∷ l) =
    rw (le-leb 0 x (omega arith)) (ap (λ (y : Bool). ltb x n && y) (climb_behind n x l) ∙ by_bool (ltb x n) (λ u. rw u refl) (λ u. rw u refl))

pub record Climbing (n : ℕ) (l : List ℕ) (i low : ℕ) : Type 0 where
  pub same : climb low n (drop i l) ≡ list_fits n l

module _ (n : ℕ) (l : List ℕ) where
  pub climbing_start : Climbing n l 0 0
  climbing_start = record { same = climb_is n l }

  at_element : (i low a : ℕ) → Climbing n l i low → i < length l → a ≡ get_or l i 0 → (leb low a && (ltb a n && climb (suc a) n (drop (suc i) l))) ≡ list_fits n l
  unfolding climb
  at_element i low a C h B = rw B (rw (drop-cons l i 0 h) at C.same)

  pub climbing_below : (i low a : ℕ) → Climbing n l i low → i < length l → a ≡ get_or l i 0 → a < low → false ≡ list_fits n l
  climbing_below i low a C h B k = rw (lt-leb low a k) at (at_element i low a C h B)

  pub climbing_above : (i low a : ℕ) → Climbing n l i low → i < length l → a ≡ get_or l i 0 → low ≤ a → n ≤ a → false ≡ list_fits n l
  climbing_above i low a C h B k m = rw (le-leb low a k, le-ltb a n m) at (at_element i low a C h B)

  pub climbing_turn : (i low a : ℕ) → Climbing n l i low → i < length l → a ≡ get_or l i 0 → low ≤ a → a < n → Climbing n l (i + 1) (a + 1)
  climbing_turn i low a C h B k m = rw (add-one i, add-one a) record { same = rw (le-leb low a k, lt-ltb a n m) at (at_element i low a C h B) }

  pub climbing_end : (i low : ℕ) → Climbing n l i low → length l ≤ i → true ≡ list_fits n l
  unfolding climb
  climbing_end i low C h = rw (drop_of_length-le l h) at C.same
