-- The bytes that the operations on a sheet alone write, from its components' names and sets.
use mathlib.Core.List.{List, map, flat_map}
use Rattle.std.specs.Prelude.{◌≡◌, ℕ, ◌≤◌, length, get_or}
use Rattle.lists.specs.Lists.{range, times}
use Rattle.bits.specs.inner.Visited.{listed}

-- The names of the first n atoms.
unfoldable pub name_bytes : List ℕ → ℕ → List ℕ
name_bytes names n = map (λ a. get_or names a 0) (range 0 n)

-- A component's block: its atoms as often as it has atoms.
unfoldable pub block_of : ℕ → List ℕ
block_of x = times (length (listed x)) (listed x)

-- The blocks of the first n sets.
unfoldable pub blocks_of : List ℕ → ℕ → List ℕ
blocks_of sets n = flat_map (λ c. block_of (get_or sets c 0)) (range 0 n)

-- r is the length of a set's block.
pub record BlockLength (x r : ℕ) : Type 0 where
  pub is : r ≡ length (block_of x)
  pub small : r ≤ 4096
