-- Sorted lists: each member is related to all behind it (the kit's `Pairwise`, for a test of two elements).
use mathlib.Core.Bool.{Bool, true, false, Bool-set}
use mathlib.Core.List.Memᴰ
use mathlib.Core.List.Pairwise
use mathlib.Core.List.{List, [], ◌∷◌, ◌++◌, map, flat_map, Memᴰ, Pairwise, Pairwise-append, rel_of_Pairwise-cons, Sublistᴰ}
use mathlib.Core.Logic.{⊎_elim, ∥∥₁_elim}
use mathlib.Core.Path.{◌≡◌, refl, subst}
use Prim.Native.Nat.{ℕ, zero, suc, ◌<◌}
use native.Mathlib.Omega.{arith}
use borrow.Author.Tests.{lt-ltb}
use lib.Dec.{ltb}
use lib.ListN.{length, get_or}
use Rattle.lists.specs.Lists.{filter, range}
use Rattle.lists.proofs.Bools.{is_false}
use Rattle.lists.proofs.Members.{filter_all, flat_map_out, range_out}
use Rattle.lists.proofs.Sublists.{sublist_filter}

abbrev pub Sorted : {A : Type 0} → (A → A → Bool) → List A → Type 0
Sorted r l = Pairwise (λ x y. r x y ≡ true) l

module _ {A : Type 0} (r : A → A → Bool) where
  sorted_append : (l m : List A) → Sorted r l → Sorted r m → ((x y : A) → Memᴰ x l → Memᴰ y m → r x y ≡ true) → Sorted r (l ++ m)
  sorted_append l m s t h =
      (Pairwise-append (λ x y. Bool-set (r x y) true)).1 (s, t, λ x i y j. ∥∥₁_elim i (Bool-set (r x y) true) (λ i. ∥∥₁_elim j (Bool-set (r x y) true) (λ j. h x y i j)))

  pub sorted_filter : (p : A → Bool) (l : List A) → Sorted r l → Sorted r (filter p l)
  sorted_filter p l s =
      Pairwise.sublistᴰ (subst (Sublistᴰ (filter p l)) (filter_all (λ _. true) l (λ _ _. refl)) (sublist_filter p (λ _. true) l (λ _ _. refl))) s

  -- Sorted by another test that holds of members wherever the first does.
  pub sorted_imp : (q : A → A → Bool) (l : List A) → ((x y : A) → Memᴰ x l → Memᴰ y l → r x y ≡ true → q x y ≡ true) → Sorted r l → Sorted q l
  sorted_imp q l h s = Pairwise.imp_of_mem (λ x y i j e. ∥∥₁_elim i (Bool-set (q x y) true) (λ i. ∥∥₁_elim j (Bool-set (q x y) true) (λ j. h x y i j e))) s

  -- No member comes before the first, where no two elements come before each other.
  pub sorted_first : ((x y : A) → r x y ≡ true → r y x ≡ true → ⊥) → (l : List A) → Sorted r l → (z x : A) → Memᴰ x l → Memᴰ (get_or l 0 z) l × (r x (get_or l 0 z) ≡ false)
  sorted_first once [] s z x m = absurd (Memᴰ.not-nil m)
  sorted_first once (y ∷ l) s z x m = (
    Memᴰ.head refl,
    is_false (λ t. ⊎_elim (λ e. let u = subst (λ v. r v y ≡ true) e t in once y y u u) (λ n. once x y t (rel_of_Pairwise-cons s ∣ n ∣₁)) (Memᴰ.cases_cons m)),
  )

  -- By index.
  member_at : (l : List A) (j : ℕ) (z : A) → j < length l → Memᴰ (get_or l j z) l
  member_at [] j z h = absurd (omega arith)
  member_at (y ∷ l) zero z h = Memᴰ.head refl
  member_at (y ∷ l) (suc j) z h = Memᴰ.tail (member_at l j z (omega arith))

  pub sorted_at : (l : List A) → Sorted r l → (i j : ℕ) (z : A) → i < j → j < length l → r (get_or l i z) (get_or l j z) ≡ true
  sorted_at [] s i j z h k = absurd (omega arith)
  sorted_at (y ∷ l) s i zero z h k = absurd (omega arith)
  sorted_at (y ∷ l) s zero (suc j) z h k = rel_of_Pairwise-cons s ∣ member_at l j z (omega arith) ∣₁
  sorted_at (y ∷ l) s (suc i) (suc j) z h k = sorted_at l (Pairwise.of_cons s) i j z (omega arith) (omega arith)

module _ {A B : Type 0} (r : A → A → Bool) (q : B → B → Bool) where
  pub sorted_map : (f : A → B) (l : List A) → ((x y : A) → r x y ≡ true → q (f x) (f y) ≡ true) → Sorted r l → Sorted q (map f l)
  sorted_map f l h s = Pairwise.map (λ u v. Bool-set (q u v) true) f h s

  pub sorted_flat_map : (f : A → List B) (l : List A) → Sorted r l → ((x : A) → Memᴰ x l → Sorted q (f x))
      → ((x y : A) → Memᴰ x l → Memᴰ y l → r x y ≡ true → (u v : B) → Memᴰ u (f x) → Memᴰ v (f y) → q u v ≡ true)
      → Sorted q (flat_map f l)
  unfolding flat_map
  sorted_flat_map f [] s each across = Pairwise.nil
  sorted_flat_map f (x ∷ l) s each across =
      sorted_append q (f x) (flat_map f l) (each x (Memᴰ.head refl))
      (sorted_flat_map f l (Pairwise.of_cons s) (λ y m. each y (Memᴰ.tail m)) (λ y z m n. across y z (Memᴰ.tail m) (Memᴰ.tail n)))
      (λ u v m n. let k = flat_map_out f l v n in across x k.0 (Memᴰ.head refl) (Memᴰ.tail k.1) (rel_of_Pairwise-cons s ∣ k.1 ∣₁) u v m k.2)

pub sorted_range : (a k : ℕ) → Sorted ltb (range a k)
unfolding range
sorted_range a zero = Pairwise.nil
sorted_range a (suc k) =
    Pairwise.cons (λ b m. ∥∥₁_elim m (Bool-set (ltb a b) true) (λ n. let r = range_out (suc a) k b n in lt-ltb a b (omega (arith, r.low)))) (sorted_range (suc a) k)
