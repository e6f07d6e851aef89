-- What `all`, `any`, `filter`, `member`, `range` and `flat_map` say of a list's members.
use mathlib.Core.Bool.{Bool, true, false, not, ◌&&◌, ◌||◌, false≢true}
use mathlib.Core.List.Memᴰ
use mathlib.Core.List.{List, [], ◌∷◌, ◌++◌, map, flat_map, Memᴰ, append-nil, append_assoc}
use mathlib.Core.Logic.{⊎_elim}
use mathlib.Core.Path.{◌≡◌, refl, sym, ◌∙◌, ap, ap₂, subst}
use Prim.Native.Nat.{ℕ, zero, suc, ◌+◌, ◌-◌, ◌≤◌, ◌<◌}
use native.Mathlib.Numerals.{add-one}
use native.Mathlib.Omega.{arith}
use borrow.Author.Tests.{eqb-true, eq-eqb, ltb-true, lt-ltb}
use lib.Dec.{eqb, ltb}
use lib.ListN.{length}
use Rattle.lists.specs.Lists.{all, any, below, filter, member, range, times}
use Rattle.lists.proofs.Bools.{by_bool, bool_ext, true_false, is_false, and_intro, and_left, and_right, or_cases, or_left, or_right}

module _ {A : Type 0} where
  pub all_at : (p : A → Bool) (l : List A) → all p l ≡ true → (x : A) → Memᴰ x l → p x ≡ true
  unfolding all
  all_at p [] e x m = absurd (Memᴰ.not-nil m)
  all_at p (y ∷ l) e x m =
      ⊎_elim (λ q. subst (λ z. p z ≡ true) (sym q) (and_left (p y) (all p l) e)) (λ n. all_at p l (and_right (p y) (all p l) e) x n)
      (Memᴰ.cases_cons m)

  pub all_intro : (p : A → Bool) (l : List A) → ((x : A) → Memᴰ x l → p x ≡ true) → all p l ≡ true
  unfolding all
  all_intro p [] h = refl
  all_intro p (y ∷ l) h = and_intro (h y (Memᴰ.head refl)) (all_intro p l (λ x m. h x (Memᴰ.tail m)))

  pub any_intro : (p : A → Bool) (l : List A) (x : A) → Memᴰ x l → p x ≡ true → any p l ≡ true
  unfolding any
  any_intro p [] x m e = absurd (Memᴰ.not-nil m)
  any_intro p (y ∷ l) x m e =
      ⊎_elim (λ q. or_left (any p l) (subst (λ z. p z ≡ true) q e)) (λ n. or_right (p y) (any_intro p l x n e)) (Memᴰ.cases_cons m)

  pub any_at : (p : A → Bool) (l : List A) → any p l ≡ true → (x : A) × Memᴰ x l × (p x ≡ true)
  unfolding any
  any_at p [] e = absurd (false≢true e)
  any_at p (y ∷ l) e = ⊎_elim (λ q. (y, Memᴰ.head refl, q)) (λ q. let r = any_at p l q in (r.0, Memᴰ.tail r.1, r.2)) (or_cases (p y) (any p l) e)

  pub all_fails : (p : A → Bool) (l : List A) → all p l ≡ false → (x : A) × Memᴰ x l × (p x ≡ false)
  unfolding all
  all_fails p [] e = absurd (false≢true (sym e))
  all_fails p (y ∷ l) e =
      by_bool (p y) (λ t. let r = all_fails p l (rest t) in (r.0, Memᴰ.tail r.1, r.2)) (λ f. (y, Memᴰ.head refl, f))
    where
      rest : p y ≡ true → all p l ≡ false
      rest t = is_false (λ a. true_false (and_intro t a) e)

  -- Tests that agree on the members agree on the list.
  pub all_cong : (p q : A → Bool) (l : List A) → ((x : A) → Memᴰ x l → p x ≡ q x) → all p l ≡ all q l
  all_cong p q l h =
      bool_ext (λ e. all_intro q l (λ x m. sym (h x m) ∙ all_at p l e x m)) (λ e. all_intro p l (λ x m. h x m ∙ all_at q l e x m))

  pub any_cong : (p q : A → Bool) (l : List A) → ((x : A) → Memᴰ x l → p x ≡ q x) → any p l ≡ any q l
  any_cong p q l h =
      bool_ext (λ e. let r = any_at p l e in any_intro q l r.0 r.1 (sym (h r.0 r.1) ∙ r.2))
      (λ e. let r = any_at q l e in any_intro p l r.0 r.1 (h r.0 r.1 ∙ r.2))

  pub all_mono : (p q : A → Bool) (l : List A) → ((x : A) → p x ≡ true → q x ≡ true) → all p l ≡ true → all q l ≡ true
  all_mono p q l h e = all_intro q l (λ x m. h x (all_at p l e x m))

  pub all_append : (p : A → Bool) (l m : List A) → all p (l ++ m) ≡ (all p l && all p m)
  unfolding all
  all_append p [] m = refl
  all_append p (x ∷ l) m = by_bool (p x) (λ t. rw t (all_append p l m)) (λ f. rw f refl)

  pub any_append : (p : A → Bool) (l m : List A) → any p (l ++ m) ≡ (any p l || any p m)
  unfolding any
  any_append p [] m = refl
  any_append p (x ∷ l) m = by_bool (p x) (λ t. rw t refl) (λ f. rw f (any_append p l m))

  pub any_filter : (p q : A → Bool) (l : List A) → any p (filter q l) ≡ any (λ x. q x && p x) l
  unfolding any filter
  any_filter p q [] = refl
  any_filter p q (x ∷ l) = by_bool (q x) (λ t. rw t (ap (λ (y : Bool). p x || y) (any_filter p q l))) (λ f. rw f (any_filter p q l))

  pub filter_cong : (p q : A → Bool) (l : List A) → ((x : A) → Memᴰ x l → p x ≡ q x) → filter p l ≡ filter q l
  unfolding filter
  filter_cong p q [] h = refl
  filter_cong p q (x ∷ l) h =
      rw (h x (Memᴰ.head refl), filter_cong p q l (λ y m. h y (Memᴰ.tail m))) refl

  pub filter_append : (p : A → Bool) (l m : List A) → filter p (l ++ m) ≡ filter p l ++ filter p m
  unfolding filter
  filter_append p [] m = refl
  filter_append p (x ∷ l) m = by_bool (p x) (λ t. rw t (ap (λ k. x ∷ k) (filter_append p l m))) (λ f. rw f (filter_append p l m))

  pub filter_none : (p : A → Bool) (l : List A) → ((x : A) → Memᴰ x l → p x ≡ false) → filter p l ≡ []
  unfolding filter
  filter_none p [] h = refl
  filter_none p (x ∷ l) h = rw (h x (Memᴰ.head refl)) (filter_none p l (λ y m. h y (Memᴰ.tail m)))

  pub filter_all : (p : A → Bool) (l : List A) → ((x : A) → Memᴰ x l → p x ≡ true) → filter p l ≡ l
  unfolding filter
  filter_all p [] h = refl
  filter_all p (x ∷ l) h = rw (h x (Memᴰ.head refl)) (ap (λ k. x ∷ k) (filter_all p l (λ y m. h y (Memᴰ.tail m))))

  -- The members that pass, with those that also pass another test and those that do not.
  pub filter_parts : (p t : A → Bool) (l : List A) → length (filter p l) ≡ length (filter (λ x. p x && t x) l) + length (filter (λ x. p x && not (t x)) l)
  unfolding filter
  filter_parts p t [] = refl
  filter_parts p t (x ∷ l) =
      let h = filter_parts p t l in
      by_bool (p x) (λ a. rw a (by_bool (t x) (λ b. rw b (omega arith)) (λ b. rw b (omega arith)))) (λ a. rw a h)

  pub filter_in : (p : A → Bool) (l : List A) (x : A) → Memᴰ x l → p x ≡ true → Memᴰ x (filter p l)
  unfolding filter
  filter_in p [] x m e = absurd (Memᴰ.not-nil m)
  filter_in p (y ∷ l) x m e =
      by_bool (p y)
      (λ t. rw t (⊎_elim (λ q. Memᴰ.head q) (λ n. Memᴰ.tail (filter_in p l x n e)) (Memᴰ.cases_cons m)))
      (λ f. rw f (⊎_elim (λ q. absurd (true_false e (ap p q ∙ f))) (λ n. filter_in p l x n e) (Memᴰ.cases_cons m)))

  pub filter_out : (p : A → Bool) (l : List A) (x : A) → Memᴰ x (filter p l) → Memᴰ x l × (p x ≡ true)
  unfolding filter
  filter_out p [] x m = absurd (Memᴰ.not-nil m)
  filter_out p (y ∷ l) x m =
      by_bool (p y)
      (λ t. ⊎_elim (λ q. (Memᴰ.head q, ap p q ∙ t)) (λ n. let r = filter_out p l x n in (Memᴰ.tail r.0, r.1))
      (Memᴰ.cases_cons (rw t at m)))
      (λ f. let r = filter_out p l x (rw f at m) in (Memᴰ.tail r.0, r.1))

  pub times_out : (k : ℕ) (l : List A) (x : A) → Memᴰ x (times k l) → Memᴰ x l
  unfolding times
  times_out zero l x m = absurd (Memᴰ.not-nil m)
  times_out (suc k) l x m = ⊎_elim (λ n. n) (times_out k l x) (Memᴰ.append_cases l m)

module _ {A B : Type 0} where
  pub all_map : (p : B → Bool) (f : A → B) (l : List A) → all p (map f l) ≡ all (λ x. p (f x)) l
  unfolding all
  all_map p f [] = refl
  all_map p f (x ∷ l) = ap (λ (y : Bool). p (f x) && y) (all_map p f l)

  pub any_map : (p : B → Bool) (f : A → B) (l : List A) → any p (map f l) ≡ any (λ x. p (f x)) l
  unfolding any
  any_map p f [] = refl
  any_map p f (x ∷ l) = ap (λ (y : Bool). p (f x) || y) (any_map p f l)

  pub map_cong : (f g : A → B) (l : List A) → ((x : A) → Memᴰ x l → f x ≡ g x) → map f l ≡ map g l
  map_cong f g [] h = refl
  map_cong f g (x ∷ l) h = rw (h x (Memᴰ.head refl), map_cong f g l (λ y m. h y (Memᴰ.tail m))) refl

  pub flat_map_cong : (f g : A → List B) (l : List A) → ((x : A) → Memᴰ x l → f x ≡ g x) → flat_map f l ≡ flat_map g l
  unfolding flat_map
  flat_map_cong f g [] h = refl
  flat_map_cong f g (x ∷ l) h = rw (h x (Memᴰ.head refl), flat_map_cong f g l (λ y m. h y (Memᴰ.tail m))) refl

  pub flat_map_append : (f : A → List B) (l m : List A) → flat_map f (l ++ m) ≡ flat_map f l ++ flat_map f m
  unfolding flat_map
  flat_map_append f [] m = refl
  flat_map_append f (x ∷ l) m = ap (λ k. f x ++ k) (flat_map_append f l m) ∙ sym (append_assoc (f x) (flat_map f l) (flat_map f m))

  pub any_flat_map : (p : B → Bool) (f : A → List B) (l : List A) → any p (flat_map f l) ≡ any (λ x. any p (f x)) l
  unfolding any flat_map
  any_flat_map p f [] = refl
  any_flat_map p f (x ∷ l) = any_append p (f x) (flat_map f l) ∙ ap (λ y. any p (f x) || y) (any_flat_map p f l)

  pub flat_map_in : (f : A → List B) (l : List A) (x : A) (y : B) → Memᴰ x l → Memᴰ y (f x) → Memᴰ y (flat_map f l)
  unfolding flat_map
  flat_map_in f [] x y m n = absurd (Memᴰ.not-nil m)
  flat_map_in f (z ∷ l) x y m n =
      ⊎_elim (λ q. Memᴰ.append_left (flat_map f l) (subst (λ w. Memᴰ y (f w)) q n)) (λ r. Memᴰ.append_right (f z) (flat_map_in f l x y r n))
      (Memᴰ.cases_cons m)

  pub flat_map_out : (f : A → List B) (l : List A) (y : B) → Memᴰ y (flat_map f l) → (x : A) × Memᴰ x l × Memᴰ y (f x)
  unfolding flat_map
  flat_map_out f [] y m = absurd (Memᴰ.not-nil m)
  flat_map_out f (z ∷ l) y m =
      ⊎_elim (λ n. (z, Memᴰ.head refl, n)) (λ n. let r = flat_map_out f l y n in (r.0, Memᴰ.tail r.1, r.2))
      (Memᴰ.append_cases (f z) m)

-- Numbers.
pub member_out : (a : ℕ) (l : List ℕ) → member a l ≡ true → Memᴰ a l
unfolding member
member_out a l e = let r = any_at (eqb a) l e in subst (λ b. Memᴰ b l) (sym (eqb-true a r.0 r.2)) r.1

pub member_in : (a : ℕ) (l : List ℕ) → Memᴰ a l → member a l ≡ true
unfolding member
member_in a l m = any_intro (eqb a) l a m (eq-eqb a a refl)

pub below_at : (n : ℕ) (l : List ℕ) → below n l ≡ true → (a : ℕ) → Memᴰ a l → a < n
unfolding below
below_at n l e a m = ltb-true a n (all_at (λ a. ltb a n) l e a m)

pub below_in : (n : ℕ) (l : List ℕ) → ((a : ℕ) → Memᴰ a l → a < n) → below n l ≡ true
unfolding below
below_in n l h = all_intro (λ a. ltb a n) l (λ a m. lt-ltb a n (h a m))

pub below_more : (n k : ℕ) (l : List ℕ) → n ≤ k → below n l ≡ true → below k l ≡ true
below_more n k l h e = below_in k l (λ a m. let b = below_at n l e a m in omega arith)

pub record Between (a k b : ℕ) : Type 0 where
  pub low : a ≤ b
  pub high : b < a + k

pub range_out : (a k b : ℕ) → Memᴰ b (range a k) → Between a k b
unfolding range
range_out a zero b m = absurd (Memᴰ.not-nil m)
range_out a (suc k) b m =
    ⊎_elim (λ q. record { low = omega arith; high = omega arith }) (λ n. let r = range_out (suc a) k b n in record { low = omega (arith, r.low); high = omega (arith, r.high) })
    (Memᴰ.cases_cons m)

pub range_in : (a k b : ℕ) → a ≤ b → b < a + k → Memᴰ b (range a k)
unfolding range
range_in a zero b l h = absurd (omega arith)
range_in a (suc k) b l h = by_bool (eqb a b) (λ t. Memᴰ.head (sym (eqb-true a b t))) (λ f. Memᴰ.tail (range_in (suc a) k b (less f) (omega arith)))
  where
    less : eqb a b ≡ false → suc a ≤ b
    less f = let ne : a ≡ b → ⊥ = λ q. true_false (eq-eqb a b q) f in omega arith

-- The first of what is left of a range.
pub range_left : (a n : ℕ) → a < n → range a (n - a) ≡ a ∷ range (a + 1) (n - (a + 1))
unfolding range
range_left a n l =
    let e : n - a ≡ suc (n - (a + 1)) = omega arith in
    ap (range a) e ∙ ap (λ k. a ∷ range k (n - (a + 1))) (sym (add-one a))

pub range_over : (a n : ℕ) → n ≤ a → range a (n - a) ≡ []
unfolding range
range_over a n l = let e : n - a ≡ 0 = omega arith in ap (range a) e

pub range_append : (a j k : ℕ) → range a (j + k) ≡ range a j ++ range (a + j) k
unfolding range
range_append a zero k = ap₂ range (let e : a ≡ a + 0 = omega arith in e) (let e : 0 + k ≡ k = omega arith in e)
range_append a (suc j) k =
    let e : suc j + k ≡ suc (j + k) = omega arith in
    let f : suc a + j ≡ a + suc j = omega arith in
    ap (range a) e ∙ ap (λ l. a ∷ l) (range_append (suc a) j k ∙ ap (λ i. range (suc a) j ++ range i k) f)

-- Where the test holds below n only, a longer range gives the same.
pub filter_range : (p : ℕ → Bool) (n m : ℕ) → n ≤ m → ((a : ℕ) → p a ≡ true → a < n) → filter p (range 0 m) ≡ filter p (range 0 n)
filter_range p n m l h =
    let size : m ≡ n + (m - n) = omega arith in
    ap (λ k. filter p (range 0 k)) size
    ∙ (ap (filter p) (range_append 0 n (m - n)) ∙ (filter_append p (range 0 n) (range (0 + n) (m - n))
    ∙ (ap (λ l. filter p (range 0 n) ++ l) (filter_none p (range (0 + n) (m - n)) (λ a k. is_false (λ t. let r = range_out (0 + n) (m - n) a k in let low = h a t in let high = r.low in absurd (omega arith))))
    ∙ append-nil (filter p (range 0 n)))))
