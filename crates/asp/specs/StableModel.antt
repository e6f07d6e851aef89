-- Settled states as document 01 defines them ("Settled states").
use Rattle.std.specs.Prelude.{Bool, true, not, ◌&&◌, List, map, ◌≡◌, ℕ, ◌<◌}
use Rattle.std.specs.Bool.{beq}
use Rattle.lists.specs.Lists.{all, filter, range}
use Rattle.asp.specs.Program.{Rule, Program, State, outside, holds}
use Rattle.asp.specs.LeastModel.{Definite, least_model}

-- The rule without its negative list.
unfoldable pub definite : Rule → Definite
definite r = record { head = r.head; pos = r.body.pos }

-- The reduct: the rules whose negative atoms are all outside the state, without their negative lists.
unfoldable pub reduct : State → List Rule → List Definite
reduct X rs = map definite (filter (λ r. outside X r.body.neg) rs)

-- No constraint has all its positive atoms in and all its negative atoms out.
unfoldable pub lawful : Program → State → Bool
lawful P X = all (λ b. not (holds X b)) P.constraints

-- The least model of the state's reduct.
unfoldable pub derived : Program → State → State
derived P X = least_model P.atoms (reduct X P.rules)

-- A stable model: a set of the program's atoms that equals the least model of its reduct and breaks no constraint.
pub record StableModel (P : Program) (X : State) : Type 0 where
  pub within : (a : ℕ) → X a ≡ true → a < P.atoms
  pub fixpoint : (a : ℕ) → X a ≡ derived P X a
  pub obeys : lawful P X ≡ true

-- The same as a test, for a set of the program's atoms.
unfoldable pub is_stable : Program → State → Bool
is_stable P X = all (λ a. beq (X a) (derived P X a)) (range 0 P.atoms) && lawful P X
