-- How long the default sequence is.
use mathlib.Core.Bool.{true}
use mathlib.Core.List.{List}
use mathlib.Core.Path.{◌≡◌}
use Prim.Native.Nat.{ℕ, ◌*◌, ◌≤◌}
use native.Mathlib.Omega.{arith}
use lib.ListN.{length}
use Rattle.lists.proofs.Members.{range_in}
use Rattle.unfolding.specs.Default.{default_sequence}
use Rattle.unfolding.proofs.Default.{default_short}
use Rattle.sheet.specs.Sheet.{program}
use Rattle.components.specs.Limit.{components_fit}
use Rattle.components.proofs.Graphs.{fits_members}

-- The length of the default sequence of a sheet with components of at most so many atoms.
pub default_length : (s : List ℕ) (most : ℕ) → components_fit most (program s) ≡ true → length (default_sequence (program s)) ≤ most * (program s).atoms
default_length s most fits =
    default_short (program s) most (λ c l. fits_members (program s) most fits c (range_in 0 (program s).atoms c (omega arith) (omega arith)))
