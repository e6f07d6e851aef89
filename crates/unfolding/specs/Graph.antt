-- The positive dependency graph of a program: edges, reach, components ("Components and chains" of document 01).
use Rattle.std.specs.Prelude.{Bool, ◌&&◌, ◌||◌, cond, List, [], ◌∷◌, ℕ, eqb}
use Rattle.lists.specs.Lists.{any, member, range}
use Rattle.asp.specs.Program.{Program, State}
use Rattle.asp.specs.LeastModel.{iterate}

-- There is an edge from b to a: b is a positive atom of a rule with head a.
unfoldable pub edge : Program → ℕ → ℕ → Bool
edge P b a = any (λ r. eqb r.head a && member b r.body.pos) P.rules

-- From the atoms of X in one step: the start itself, and where an edge leads.
unfoldable pub onward : Program → ℕ → State → State
onward P start X a = eqb start a || any (λ b. X b && edge P b a) (range 0 P.atoms)

-- Reach: the atoms to which edges lead from the start, the start among them.
unfoldable pub reach : Program → ℕ → State
reach P start = iterate (onward P start) P.atoms

-- The two atoms are of one component: each reaches the other.
unfoldable pub same_component : Program → ℕ → ℕ → Bool
same_component P a b = reach P a b && reach P b a

-- The first number of the list of which the test holds, or d.
unfoldable pub first : (ℕ → Bool) → ℕ → List ℕ → ℕ
first p d [] = d
first p d (x ∷ xs) = cond (p x) x (first p d xs)

-- A component is named by its smallest atom.
unfoldable pub component : Program → ℕ → ℕ
component P a = first (same_component P a) a (range 0 P.atoms)
