-- What the tables promise that say where a pass over the rules goes on.
use Rattle.std.specs.Prelude.{true, false, List, ◌≡◌, ℕ, ◌<◌, length, get_or}
use Rattle.bits.specs.inner.Sets.{has}
use Rattle.tables.specs.inner.Rows.{row_at}

-- j is entered for each atom of the set, and for no other.
pub record Entered (at : List ℕ) (set j : ℕ) (at' : List ℕ) : Type 0 where
  pub long : length at' ≡ 64
  pub new : (a : ℕ) → has set a ≡ true → get_or at' a 0 ≡ j
  pub old : (a : ℕ) → has set a ≡ false → get_or at' a 0 ≡ get_or at a 0

-- For each atom no rule before an index has it among its positive ones.
pub record Firsts (t : List ℕ) (k : ℕ) (at : List ℕ) : Type 0 where
  pub lacks : (a j : ℕ) → j < k → j < get_or at a 0 → has (row_at t j).pos a ≡ false
