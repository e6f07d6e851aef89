-- The digits of a number in decimal, one by one.
use Rattle.std.specs.Prelude.{cond, List, [], ◌∷◌, ◌≡◌, ℕ, ◌/◌, ◌%◌, ◌≤◌, ltb, length}
use Rattle.text.specs.Text.{digit, decimal}

-- The digit of n at a unit, none where n is smaller.
unfoldable pub digit_at : ℕ → ℕ → List ℕ
digit_at unit n = cond (ltb n unit) [] (digit (n / unit % 10) ∷ [])

-- The digits from a unit on upwards.
unfoldable pub upper_digits : ℕ → ℕ → List ℕ
upper_digits unit n = cond (ltb n unit) [] (decimal (n / unit))

-- r is how many digits n has, three at most.
pub record SmallLength (n r : ℕ) : Type 0 where
  pub is : r ≡ length (decimal n)
  pub few : r ≤ 3
