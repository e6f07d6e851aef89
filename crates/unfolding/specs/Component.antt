-- Components as document 01 defines them ("Components and chains").
use Rattle.std.specs.Prelude.{true, ◌≡◌, ℕ, ◌<◌}
use Rattle.asp.specs.Program.{Program, State}
use Rattle.asp.specs.LeastModel.{Inside}
use Rattle.unfolding.specs.Graph.{reach}

-- A component: a largest set of atoms that all reach one another.
abbrev pub AllReach : Program → State → Type 0
AllReach P C = (a b : ℕ) → C a ≡ true → C b ≡ true → reach P a b ≡ true

pub record Component (P : Program) (C : State) : Type 0 where
  pub atoms : (a : ℕ) → C a ≡ true → a < P.atoms
  pub mutual_reach : AllReach P C
  pub largest : (D : State) → ((a : ℕ) → D a ≡ true → a < P.atoms) → AllReach P D → Inside C D → Inside D C
