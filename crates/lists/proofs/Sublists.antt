-- Sublists: the kit's `Sublistᴰ l m` says that the members of l can be met in m in order, gaps allowed.
use mathlib.Core.Bool.{Bool, true}
use mathlib.Core.List.Memᴰ
use mathlib.Core.List.Sublistᴰ
use mathlib.Core.List.{List, [], ◌∷◌, ◌++◌, map, flat_map, reverse, reverse_aux, reverse-reverse, append-nil, Memᴰ, Sublistᴰ}
use mathlib.Core.Logic.{◌⊎◌, inl, inr, ⊎_elim}
use mathlib.Core.Path.{◌≡◌, refl, ◌∙◌, ap, subst}
use Prim.Native.Nat.{ℕ, zero, suc, ◌≤◌}
use native.Mathlib.Nat.{not-suc-le-zero, le_of_suc-le-suc}
use native.Mathlib.Omega.{arith}
use lib.ListN.{length, length-append}
use Rattle.lists.specs.Lists.{filter, times, range}
use Rattle.lists.proofs.Bools.{by_bool}

module _ {A : Type 0} where
  pub sublist_tail : {a : A} {l m : List A} → Sublistᴰ (a ∷ l) m → Sublistᴰ l m
  sublist_tail {a} {l} s = Sublistᴰ.trans (Sublistᴰ.cons (Sublistᴰ.refl l)) s

  pub sublist_mem : {a : A} {l : List A} → Memᴰ a l → Sublistᴰ (a ∷ []) l
  sublist_mem (Memᴰ.head {xs = xs} e) = Sublistᴰ.cons-cons e (Sublistᴰ.nil-sublist xs)
  sublist_mem (Memᴰ.tail m) = Sublistᴰ.cons (sublist_mem m)

  pub mem_sublist : {a : A} {l m : List A} → Sublistᴰ l m → Memᴰ a l → Memᴰ a m
  mem_sublist Sublistᴰ.slnil n = n
  mem_sublist (Sublistᴰ.cons s) n = Memᴰ.tail (mem_sublist s n)
  mem_sublist (Sublistᴰ.cons-cons e s) n = ⊎_elim (λ q. Memᴰ.head (q ∙ e)) (λ k. Memᴰ.tail (mem_sublist s k)) (Memᴰ.cases_cons n)

  sublist_reverse_aux : {l m p q : List A} → Sublistᴰ l m → Sublistᴰ p q → Sublistᴰ (reverse_aux l p) (reverse_aux m q)
  sublist_reverse_aux Sublistᴰ.slnil t = t
  sublist_reverse_aux (Sublistᴰ.cons s) t = sublist_reverse_aux s (Sublistᴰ.cons t)
  sublist_reverse_aux (Sublistᴰ.cons-cons e s) t = sublist_reverse_aux s (Sublistᴰ.cons-cons e t)

  mem_reverse_aux : {a : A} (l m : List A) → Memᴰ a (reverse_aux l m) → Memᴰ a l ⊎ Memᴰ a m
  mem_reverse_aux [] m n = inr n
  mem_reverse_aux (x ∷ l) m n =
      ⊎_elim (λ k. inl (Memᴰ.tail k)) (λ k. ⊎_elim (λ e. inl (Memᴰ.head e)) (λ j. inr j) (Memᴰ.cases_cons k)) (mem_reverse_aux l (x ∷ m) n)

  pub mem_reverse : {a : A} (l : List A) → Memᴰ a (reverse l) → Memᴰ a l
  mem_reverse l n = ⊎_elim (λ m. m) (λ m. absurd (Memᴰ.not-nil m)) (mem_reverse_aux l [] n)

  sublist_reverse : {l m : List A} → Sublistᴰ l m → Sublistᴰ (reverse l) (reverse m)
  sublist_reverse s = sublist_reverse_aux s Sublistᴰ.slnil

  pub sublist_reversed : {l m : List A} → Sublistᴰ (reverse l) m → Sublistᴰ l (reverse m)
  sublist_reversed {l} {m} s = subst (λ k. Sublistᴰ k (reverse m)) (reverse-reverse l) (sublist_reverse s)

  -- What passes a stricter test.
  pub sublist_filter : (p q : A → Bool) (l : List A) → ((x : A) → p x ≡ true → q x ≡ true) → Sublistᴰ (filter p l) (filter q l)
  unfolding filter
  sublist_filter p q [] h = Sublistᴰ.slnil
  sublist_filter p q (x ∷ l) h =
      by_bool (p x) (λ t. rw (t, h x t) (Sublistᴰ.cons-cons refl (sublist_filter p q l h)))
      (λ f. by_bool (q x) (λ t. rw (f, t) (Sublistᴰ.cons (sublist_filter p q l h))) (λ g. rw (f, g) (sublist_filter p q l h)))

  pub sublist_length : {l m : List A} → Sublistᴰ l m → length l ≤ length m
  sublist_length Sublistᴰ.slnil = omega arith
  sublist_length (Sublistᴰ.cons s) = let h = sublist_length s in omega arith
  sublist_length (Sublistᴰ.cons-cons e s) = let h = sublist_length s in omega arith

  -- Members of l, in any order, are met in l repeated often enough.
  pub sublist_times : (k : ℕ) (w l : List A) → length w ≤ k → ((x : A) → Memᴰ x w → Memᴰ x l) → Sublistᴰ w (times k l)
  unfolding times
  sublist_times k [] l le h = Sublistᴰ.nil-sublist (times k l)
  sublist_times zero (x ∷ w) l le h = absurd (not-suc-le-zero le)
  sublist_times (suc k) (x ∷ w) l le h =
      Sublistᴰ.append (sublist_mem (h x (Memᴰ.head refl))) (sublist_times k w l (le_of_suc-le-suc le) (λ y m. h y (Memᴰ.tail m)))

module _ {A B : Type 0} where
  pub sublist_flat_map : (f : A → List B) (l : List A) (x : A) → Memᴰ x l → Sublistᴰ (f x) (flat_map f l)
  unfolding flat_map
  sublist_flat_map f [] x m = absurd (Memᴰ.not-nil m)
  sublist_flat_map f (y ∷ l) x m =
      ⊎_elim (λ e. subst (λ k. Sublistᴰ k (f y ++ flat_map f l)) (append-nil (f x)) (Sublistᴰ.append (subst (λ z. Sublistᴰ (f x) (f z)) e (Sublistᴰ.refl (f x))) (Sublistᴰ.nil-sublist (flat_map f l))))
      (λ n. Sublistᴰ.append (Sublistᴰ.nil-sublist (f y)) (sublist_flat_map f l x n))
      (Memᴰ.cases_cons m)

  pub sublist_map : (f : A → B) {l m : List A} → Sublistᴰ l m → Sublistᴰ (map f l) (map f m)
  sublist_map f Sublistᴰ.slnil = Sublistᴰ.slnil
  sublist_map f (Sublistᴰ.cons s) = Sublistᴰ.cons (sublist_map f s)
  sublist_map f (Sublistᴰ.cons-cons e s) = Sublistᴰ.cons-cons (ap f e) (sublist_map f s)

  pub sublist_flat_map_length : (f : A → List B) {l m : List A} → Sublistᴰ l m → length (flat_map f l) ≤ length (flat_map f m)
  unfolding flat_map
  sublist_flat_map_length f Sublistᴰ.slnil = omega arith
  sublist_flat_map_length f (Sublistᴰ.cons {a = x} {l₂ = m} s) = let h = sublist_flat_map_length f s in let e = length-append (f x) (flat_map f m) in omega arith
  sublist_flat_map_length f (Sublistᴰ.cons-cons {a = x} {b = y} {l₁ = l} {l₂ = m} q s) =
      let h = sublist_flat_map_length f s in
      let e = length-append (f x) (flat_map f l) in
      let g = length-append (f y) (flat_map f m) in
      let k = ap (λ z. length (f z)) q in
      omega arith

-- A shorter range from the same number on.
pub sublist_range : (a n m : ℕ) → n ≤ m → Sublistᴰ (range a n) (range a m)
unfolding range
sublist_range a zero m l = Sublistᴰ.nil-sublist (range a m)
sublist_range a (suc n) zero l = absurd (not-suc-le-zero l)
sublist_range a (suc n) (suc m) l = Sublistᴰ.cons-cons refl (sublist_range (suc a) n m (le_of_suc-le-suc l))
