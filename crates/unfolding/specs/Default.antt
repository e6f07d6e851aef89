-- The default sequence of document 01.
use mathlib.Core.List.{List, flat_map}
use Rattle.std.specs.Prelude.{ℕ, eqb, length}
use Rattle.lists.specs.Lists.{filter, times, range}
use Rattle.asp.specs.Program.{Program}
use Rattle.unfolding.specs.Graph.{component}

-- The atoms of the component named c, rising: none where c is not the smallest atom of its component.
unfoldable pub members : Program → ℕ → List ℕ
members P c = filter (λ a. eqb (component P a) c) (range 0 P.atoms)

-- A component of k atoms lists them rising, k times over.
unfoldable pub block : Program → ℕ → List ℕ
block P c = times (length (members P c)) (members P c)

-- Components by their smallest atom.
unfoldable pub default_sequence : Program → List ℕ
default_sequence P = flat_map (block P) (range 0 P.atoms)
