-- Where the shortest missing chain of a program starts, if one is missing.
use Rattle.std.specs.Prelude.{Option, List, ℕ, ◌+◌, ◌<◌}
use Rattle.asp.specs.Program.{Program}
use Rattle.unfolding.specs.Graph.{component}
use Rattle.chains.specs.inner.Components.{Edged, Members, Graph}
use Rattle.starts.specs.declared.Start.{Start}
use Rattle.starts.specs.inner.Starts.{StartIn}

-- The start in the components named below c and in the one named c, which has these atoms, where it is `best` in those below.
pub record Improved (best : Option Start) (rows : List ℕ) (x : ℕ) (s : List ℕ) (r : Option Start) : Type 0 where
  pub is : (P : Program) (c : ℕ) → Edged P rows → Members P c x → StartIn P s (λ b. component P b < c) best → StartIn P s (λ b. component P b < c + 1) r

-- The start in the whole program.
pub record StartOf (n : ℕ) (rows sets s : List ℕ) (r : Option Start) : Type 0 where
  pub is : (P : Program) → Graph P n rows sets → StartIn P s (λ b. b < P.atoms) r
