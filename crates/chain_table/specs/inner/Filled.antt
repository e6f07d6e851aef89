-- The table of a component, emptied and filled.
use Rattle.std.specs.Prelude.{List, ◌≡◌, ℕ, ◌<◌, get_or}
use Rattle.asp.specs.Program.{Program}
use Rattle.chain_rows.specs.inner.Subsets.{Setting, SubsetTable}

-- All rows below a size are empty.
pub record Cleared (size : ℕ) (table : List ℕ) : Type 0 where
  pub empty : (S : ℕ) → S < size → get_or table S 0 ≡ 0

-- The table is that of s.
pub record Filled (rows atoms : List ℕ) (k : ℕ) (s table : List ℕ) : Type 0 where
  pub is : (P : Program) → Setting P rows atoms k → SubsetTable P atoms k table s
