-- The gates of free rules, as sets.
use Rattle.std.specs.Prelude.{◌&&◌, List, ◌≡◌, ℕ, ◌<◌, eqb, get_or}
use Rattle.bits.specs.inner.Sets.{has}
use Rattle.tables.specs.inner.Rows.{row_at}

-- The gate of a choice rule is its head; another rule has none.
pub record GateOf (kind head r : ℕ) : Type 0 where
  pub members : (b : ℕ) → has r b ≡ (eqb kind 2 && eqb b head)

-- The gates of the first k rules.
pub record GatesOf (t : List ℕ) (k : ℕ) (gates : List ℕ) : Type 0 where
  pub gate : (j : ℕ) → j < k → GateOf (row_at t j).kind (row_at t j).head (get_or gates j 0)
