-- Lists without duplicates (the kit's `List.Nodup`) and their lengths.
use mathlib.Core.Bool.{Bool, true, false}
use mathlib.Core.List.Nodup
use mathlib.Core.List.Pairwise
use mathlib.Core.List.Subperm
use mathlib.Core.List.{List, [], ◌∷◌, ◌++◌, map, Memᴰ, Nodup, Pairwise-reverse, reverse, rel_of_Pairwise-cons, length as length'}
use mathlib.Core.HLevel.{¬_prop}
use mathlib.Core.Logic.{⊎_elim, ∥∥₁_elim, ∥∥₁_map}
use mathlib.Core.Path.{◌≡◌, refl, sym, ◌∙◌, ap, subst}
use Prim.Native.Nat.{ℕ, zero, suc, ◌≤◌, ◌<◌}
use native.Mathlib.Bridge.{from_ℕ, from_le}
use native.Mathlib.Nat.{le_antisymm}
use native.Mathlib.Omega.{arith}
use lib.ListN.{length}
use Rattle.lists.specs.Lists.{filter, member, range}
use Rattle.lists.proofs.Bools.{by_bool, true_false}
use Rattle.lists.proofs.Members.{filter_in, filter_out, member_in, member_out, range_out}

module _ {A : Type 0} where
  pub nodup_cons : {a : A} {l : List A} → (Memᴰ a l → ⊥) → Nodup l → Nodup (a ∷ l)
  nodup_cons {a} {l} out d =
      Pairwise.cons (λ b m e. ∥∥₁_elim m (λ x y. elim x [ ]) (λ n. out (subst (λ z. Memᴰ z l) (sym e) n))) d

  pub nodup_head : {a : A} {l : List A} → Nodup (a ∷ l) → Memᴰ a l → ⊥
  nodup_head d m = rel_of_Pairwise-cons d ∣ m ∣₁ refl

  length_is : (l : List A) → from_ℕ (length' l) ≡ length l
  length_is [] = refl
  length_is (x ∷ l) = ap suc (length_is l)

  -- Pigeonhole: a list without duplicates is no longer than a list that has all its members.
  pub nodup_le : (l m : List A) → Nodup l → ((x : A) → Memᴰ x l → Memᴰ x m) → length l ≤ length m
  nodup_le l m d h = rw (length_is l, length_is m) at (from_le (Subperm.length-le (Nodup.subperm {l₁ = l} {l₂ = m} d (λ x t. ∥∥₁_map t (h x)))))

  -- Two lists without duplicates with the same members are equally long.
  pub nodup_same : (l m : List A) → Nodup l → Nodup m → ((x : A) → Memᴰ x l → Memᴰ x m)
      → ((x : A) → Memᴰ x m → Memᴰ x l) → length l ≡ length m
  nodup_same l m d e f g = le_antisymm (nodup_le l m d f) (nodup_le m l e g)

  pub nodup_filter : (p : A → Bool) (l : List A) → Nodup l → Nodup (filter p l)
  unfolding filter
  nodup_filter p [] d = d
  nodup_filter p (x ∷ l) d =
      by_bool (p x) (λ t. rw t (nodup_cons (λ m. nodup_head d (filter_out p l x m).0) (nodup_filter p l (Pairwise.of_cons d))))
      (λ f. rw f (nodup_filter p l (Pairwise.of_cons d)))

  -- A test that holds of more members, and of one member more, keeps more.
  pub filter_le : (p q : A → Bool) (l : List A) → Nodup l → ((x : A) → Memᴰ x l → p x ≡ true → q x ≡ true)
      → length (filter p l) ≤ length (filter q l)
  filter_le p q l d h =
      nodup_le (filter p l) (filter q l) (nodup_filter p l d)
      (λ x m. let r = filter_out p l x m in filter_in q l x r.0 (h x r.0 r.1))

  pub filter_lt : (p q : A → Bool) (l : List A) → Nodup l → ((x : A) → Memᴰ x l → p x ≡ true → q x ≡ true)
      → (x : A) → Memᴰ x l → p x ≡ false → q x ≡ true
      → length (filter p l) < length (filter q l)
  filter_lt p q l d h x m f t =
      nodup_le (x ∷ filter p l) (filter q l) (nodup_cons (λ n. true_false (filter_out p l x n).1 f) (nodup_filter p l d))
      (λ y n. ⊎_elim (λ e. subst (λ z. Memᴰ z (filter q l)) (sym e) (filter_in q l x m t)) (λ k. let r = filter_out p l y k in filter_in q l y r.0 (h y r.0 r.1))
      (mathlib.Core.List.Memᴰ.cases_cons n))

module _ {A : Type 0} where
  pub nodup_append : (l m : List A) → Nodup l → Nodup m → ((x : A) → Memᴰ x l → Memᴰ x m → ⊥) → Nodup (l ++ m)
  nodup_append [] m d e h = e
  nodup_append (x ∷ l) m d e h =
      nodup_cons (λ n. ⊎_elim (nodup_head d) (h x (mathlib.Core.List.Memᴰ.head refl)) (mathlib.Core.List.Memᴰ.append_cases l n))
      (nodup_append l m (Pairwise.of_cons d) e (λ y n. h y (mathlib.Core.List.Memᴰ.tail n)))

  pub nodup_reverse : (l : List A) → Nodup l → Nodup (reverse l)
  nodup_reverse l d = (Pairwise-reverse (λ x y. ¬_prop)).1 (Pairwise.imp (λ x y ne e. ne (sym e)) d)

module _ {A B : Type 0} where
  -- A function that is one to one on the members.
  pub nodup_map : (f : A → B) (l : List A) → ((x y : A) → Memᴰ x l → Memᴰ y l → f x ≡ f y → x ≡ y) → Nodup l → Nodup (map f l)
  nodup_map f [] h d = Pairwise.nil
  nodup_map f (x ∷ l) h d =
      nodup_cons (λ m. let u = mathlib.Core.List.Memᴰ.of_map f l m in nodup_head d (subst (λ z. Memᴰ z l) (h u.0 x (mathlib.Core.List.Memᴰ.tail u.1) (mathlib.Core.List.Memᴰ.head refl) u.2) u.1))
      (nodup_map f l (λ y z m n. h y z (mathlib.Core.List.Memᴰ.tail m) (mathlib.Core.List.Memᴰ.tail n)) (Pairwise.of_cons d))

  -- Members with the same image are the same, where the images are different.
  pub nodup_map_one : (f : A → B) (l : List A) → Nodup (map f l) → (x y : A) → Memᴰ x l → Memᴰ y l → f x ≡ f y → x ≡ y
  nodup_map_one f [] d x y m n e = absurd (mathlib.Core.List.Memᴰ.not-nil m)
  nodup_map_one f (z ∷ l) d x y m n e =
      ⊎_elim
      (λ p. ⊎_elim (λ q. p ∙ sym q) (λ j. absurd (nodup_head d (subst (λ w. Memᴰ w (map f l)) (sym e ∙ ap f p) (mathlib.Core.List.Memᴰ.map f j)))) (mathlib.Core.List.Memᴰ.cases_cons n))
      (λ i. ⊎_elim (λ q. absurd (nodup_head d (subst (λ w. Memᴰ w (map f l)) (e ∙ ap f q) (mathlib.Core.List.Memᴰ.map f i)))) (λ j. nodup_map_one f l (Pairwise.of_cons d) x y i j e) (mathlib.Core.List.Memᴰ.cases_cons n))
      (mathlib.Core.List.Memᴰ.cases_cons m)

pub nodup_range : (a k : ℕ) → Nodup (range a k)
unfolding range
nodup_range a zero = Pairwise.nil
nodup_range a (suc k) = nodup_cons (λ m. let r = range_out (suc a) k a m in omega (arith, r.low)) (nodup_range (suc a) k)

pub length_range : (a k : ℕ) → length (range a k) ≡ k
unfolding range
length_range a zero = refl
length_range a (suc k) = ap suc (length_range (suc a) k)

-- k different numbers of the k numbers from a are all of them.
pub nodup_covers : (l : List ℕ) (a k : ℕ) → Nodup l → ((x : ℕ) → Memᴰ x l → Memᴰ x (range a k)) → k ≤ length l
    → (b : ℕ) → Memᴰ b (range a k) → Memᴰ b l
nodup_covers l a k d h long b m = by_bool (member b l) (λ t. member_out b l t) (λ f. absurd (too_long f))
  where
    too_long : member b l ≡ false → ⊥
    too_long f =
        let le = nodup_le (b ∷ l) (range a k) (nodup_cons (λ n. true_false (member_in b l n) f) d)
        (λ x n. ⊎_elim (λ e. subst (λ z. Memᴰ z (range a k)) (sym e) m) (h x) (mathlib.Core.List.Memᴰ.cases_cons n)) in
        omega (arith, le, length_range a k)
