-- Lists of atoms below 64.
use Rattle.std.specs.Prelude.{List, ℕ, ◌<◌, get_or}

-- The first k atoms of the list are below 64.
pub record Low (atoms : List ℕ) (k : ℕ) : Type 0 where
  pub low : (j : ℕ) → j < k → get_or atoms j 0 < 64

-- The first k atoms of the list rise.
pub record RisesTo (atoms : List ℕ) (k : ℕ) : Type 0 where
  pub rises : (i j : ℕ) → i < j → j < k → get_or atoms i 0 < get_or atoms j 0
