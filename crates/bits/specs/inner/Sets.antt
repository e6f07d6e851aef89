-- Sets of numbers as the binary digits of a number.
use Rattle.std.specs.Prelude.{Bool, true, not, ◌&&◌, ◌||◌, List, ◌≡◌, ℕ, ◌/◌, ◌%◌, ◌^◌, ◌≤◌, ◌<◌, eqb, length, get_or}
use Rattle.lists.specs.Lists.{filter, member, range}

-- Digit a of x is 1.
abbrev pub has : ℕ → ℕ → Bool
has x a = eqb (x / 2 ^ a % 2) 1

-- r is the set x with a.
pub record With (x a r : ℕ) : Type 0 where
  pub grows : x ≤ r
  pub members : (b : ℕ) → has r b ≡ (eqb b a || has x b)

-- r is the set x with a, where b holds.
pub record WithIf (x a : ℕ) (b : Bool) (r : ℕ) : Type 0 where
  pub members : (p : ℕ) → has r p ≡ (has x p || eqb p a && b)

-- r is the set x without a.
pub record Without (x a r : ℕ) : Type 0 where
  pub falls : r ≤ x
  pub members : (b : ℕ) → has r b ≡ (has x b && not (eqb b a))

-- r is the set of the numbers of the list.
pub record Gathered (l : List ℕ) (r : ℕ) : Type 0 where
  pub members : (b : ℕ) → has r b ≡ member b l

-- r is the byte at index i.
pub record ByteAt (s : List ℕ) (i r : ℕ) : Type 0 where
  pub is : r ≡ get_or s i 0
  pub small : r < 256

-- r says whether every number of x is in y.
pub record Subset (x y : ℕ) (r : Bool) : Type 0 where
  pub inside : r ≡ true → (a : ℕ) → has x a ≡ true → has y a ≡ true
  pub all_inside : ((a : ℕ) → has x a ≡ true → has y a ≡ true) → r ≡ true

-- r has the numbers that are in both.
pub record Both (x y r : ℕ) : Type 0 where
  pub members : (a : ℕ) → has r a ≡ (has x a && has y a)

-- r has the numbers that are in either.
pub record Either (x y r : ℕ) : Type 0 where
  pub members : (a : ℕ) → has r a ≡ (has x a || has y a)

-- r has the numbers of x that are not in y.
pub record Difference (x y r : ℕ) : Type 0 where
  pub members : (a : ℕ) → has r a ≡ (has x a && not (has y a))

-- r is how many of the numbers below 64 are in the set.
pub record Size (x r : ℕ) : Type 0 where
  pub is : r ≡ length (filter (has x) (range 0 64))
