-- What the function that divides the input promises.
use Rattle.std.specs.Prelude.{List, ◌≡◌, ℕ, ◌≤◌, length}
use Rattle.dimacs.specs.Text.{sheet_end}

-- The sheet ends at r, within the input.
pub record SheetEnd (input : List ℕ) (r : ℕ) : Type 0 where
  pub is : r ≡ sheet_end input
  pub inside : r ≤ length input
