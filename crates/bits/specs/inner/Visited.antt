-- The atoms of a set as a list, and what visiting them one by one promises.
use Rattle.std.specs.Prelude.{Bool, true, false, List, ◌≡◌, ℕ, ◌+◌, ◌≤◌, ◌<◌}
use Rattle.lists.specs.Lists.{filter, range}
use Rattle.bits.specs.inner.Sets.{has, Without}

-- The numbers below 64 of the set, rising.
unfoldable pub listed : ℕ → List ℕ
listed x = filter (has x) (range 0 64)

-- a is the smallest number of the set.
pub record Lowest (x a : ℕ) : Type 0 where
  pub low : a < 64
  pub is : has x a ≡ true
  pub first : (b : ℕ) → b < a → has x b ≡ false

-- r is the set without its smallest number.
pub record Rest (x r : ℕ) : Type 0 where
  pub fewer : r < x
  pub without : (a : ℕ) → Lowest x a → Without x a r

-- The k numbers from a on are in the set.
pub record Run (x a k : ℕ) : Type 0 where
  pub fits : a + k ≤ 64
  pub all : (b : ℕ) → a ≤ b → b < a + k → has x b ≡ true

-- r says whether they are.
pub record HasRun (x a k : ℕ) (r : Bool) : Type 0 where
  pub run : r ≡ true → Run x a k
  pub all_run : Run x a k → r ≡ true

-- r is the set without the k numbers from a on.
pub record WithoutRun (x a k r : ℕ) : Type 0 where
  pub gone : (b : ℕ) → a ≤ b → b < a + k → has r b ≡ false
  pub below : (b : ℕ) → b < a → has r b ≡ has x b
  pub above : (b : ℕ) → a + k ≤ b → has r b ≡ has x b
