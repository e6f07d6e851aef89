-- Tables of variables.
use Rattle.std.specs.Prelude.{cond, List, ◌≡◌, ℕ, ◌<◌, length, get_or}
use Rattle.bits.specs.inner.Sets.{has}

-- The table has these values.
pub record Values (f : ℕ → ℕ) (vars : List ℕ) : Type 0 where
  pub long : length vars ≡ 64
  pub is : (b : ℕ) → b < 64 → get_or vars b 0 ≡ f b

-- The table is the old one with the source's values for the set's atoms.
pub record Overlaid (set : ℕ) (source old new : List ℕ) : Type 0 where
  pub is : (b : ℕ) → b < 64 → get_or new b 0 ≡ cond (has set b) (get_or source b 0) (get_or old b 0)
