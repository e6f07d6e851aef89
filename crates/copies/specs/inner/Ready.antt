-- What the emitters ask for: a program as a table, the sets of its components, and a sequence of its atoms.
use Rattle.std.specs.Prelude.{true, List, ◌≡◌, ℕ, ◌≤◌, ◌<◌, length, get_or}
use Rattle.lists.specs.Lists.{below}
use Rattle.unfolding.specs.Graph.{same_component}
use Rattle.unfolding.specs.Unfolded.{Unfolded, unfolded}
use Rattle.bits.specs.inner.Sets.{has}
use Rattle.sheet.specs.Sequence.{entries}
use Rattle.program.specs.inner.Held.{ProgramTable, program_in, Readable}

-- For each atom of a table the set of its component.
pub record ComponentSets (t : ProgramTable) (components : List ℕ) : Type 0 where
  pub members : (a b : ℕ) → a < t.atoms → b < t.atoms → has (get_or components a 0) b ≡ same_component (program_in t) a b

pub record Ready (t : ProgramTable) (components q : List ℕ) : Type 0 where
  pub readable : Readable t
  pub grouped : ComponentSets t components
  pub long : 3 ≤ length q
  pub short : length q ≤ 643
  pub low : below t.atoms (entries q) ≡ true

-- The unfolded program of a table and a sequence.
unfoldable pub unfolded_in : ProgramTable → List ℕ → Unfolded
unfolded_in t q = unfolded (program_in t) (entries q)
