-- What the search for a record promises.
use Rattle.std.specs.Prelude.{List, ◌≡◌, ℕ}
use Rattle.sheet.specs.inner.Walk.{Known}
use Rattle.operations.specs.Outputs.{place}

-- r is where record i stands, and the record has passed.
pub record Placed (s : List ℕ) (n i r : ℕ) : Type 0 where
  pub is : r ≡ place i s
  pub known : Known s n r
