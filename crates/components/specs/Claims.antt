-- What is proved of question 7; `proofs/Claims.antt` has the proof.
use Rattle.std.specs.Prelude.{true, ◌↔◌, ◌≡◌, ℕ, ◌≤◌, length}
use Rattle.lists.specs.Lists.{filter, range}
use Rattle.asp.specs.Program.{Program, State, well_formed}
use Rattle.unfolding.specs.Component.{Component}
use Rattle.components.specs.Limit.{components_fit}

-- The test of question 7 holds just when every component, as document 01 defines it, has at most `most` atoms.
abbrev pub FitIsOfComponents : Type 0
FitIsOfComponents = (P : Program) → well_formed P ≡ true → (most : ℕ)
    → (components_fit most P ≡ true) ↔ ((C : State) → Component P C → length (filter C (range 0 P.atoms)) ≤ most)
