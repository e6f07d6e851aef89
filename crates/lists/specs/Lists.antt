-- Functions on lists that the definitions of the other crates are made of, beside the kit's `map`, `◌++◌`, `flat_map` and `length`.
use Rattle.std.specs.Prelude.{Bool, true, false, ◌&&◌, ◌||◌, cond, List, [], ◌∷◌, ◌++◌, ℕ, zero, suc, eqb, ltb}

module _ {A : Type 0} where
  -- The test holds of every element.
  unfoldable pub all : (A → Bool) → List A → Bool
  all p [] = true
  all p (x ∷ xs) = p x && all p xs

  -- The test holds of some element.
  unfoldable pub any : (A → Bool) → List A → Bool
  any p [] = false
  any p (x ∷ xs) = p x || any p xs

  -- The elements of which the test holds, in their order.
  unfoldable pub filter : (A → Bool) → List A → List A
  filter p [] = []
  filter p (x ∷ xs) = cond (p x) (x ∷ filter p xs) (filter p xs)

  -- The list k times over.
  unfoldable pub times : ℕ → List A → List A
  times zero xs = []
  times (suc k) xs = xs ++ times k xs

-- The number stands in the list.
unfoldable pub member : ℕ → List ℕ → Bool
member a l = any (eqb a) l

-- The numbers are all below n.
unfoldable pub below : ℕ → List ℕ → Bool
below n l = all (λ a. ltb a n) l

-- The k numbers a, a + 1 and on.
unfoldable pub range : ℕ → ℕ → List ℕ
range a zero = []
range a (suc k) = a ∷ range (suc a) k
