-- How many rules and constraints an unfolded program has, and how many atoms stand in their bodies.
use Rattle.std.specs.Prelude.{List, [], ◌∷◌, ◌≡◌, ℕ, ◌+◌, ◌-◌, ◌*◌, ◌≤◌, ◌<◌, length, get_or}
use Rattle.unfolding.specs.Unfolded.{Unfolded}
use Rattle.program.specs.inner.Held.{table_rule, bodies_at}
use Rattle.copies.specs.inner.Bodies.{body_atoms, atom_count, kept_bodies}
use Rattle.totals.specs.declared.Totals.{Totals}

-- How many atoms the bodies of the entries from .. to - 1 have.
unfoldable pub atoms_at : List ℕ → List ℕ → ℕ → ℕ → ℕ
atoms_at t p from to = atom_count (bodies_at t p from (to - from))

-- Sizes that bodies have.
pub record SmallSizes (sizes : List ℕ) : Type 0 where
  pub low : (i : ℕ) → i < 192 → get_or sizes i 0 ≤ 129

-- The sizes of the first so many bodies.
pub record SizesOf (t p : List ℕ) (rules : ℕ) (sizes : List ℕ) : Type 0 where
  pub is : (i : ℕ) → i < rules → get_or sizes i 0 ≡ body_atoms (table_rule t p i)
  pub small : SmallSizes sizes

-- The sum of the numbers that stand at the indices.
unfoldable pub sum_at : List ℕ → List ℕ → ℕ
sum_at sizes [] = 0
sum_at sizes (i ∷ is) = get_or sizes i 0 + sum_at sizes is

-- The sum of the sizes at the numbers that are listed.
pub record ListedSum (sizes listed : List ℕ) (r : ℕ) : Type 0 where
  pub is : r ≡ sum_at sizes listed
  pub small : r ≤ 129 * length listed

-- The numbers of the rules that the copies keep and of their atoms.
pub record KeptTotals (U : Unfolded) (r : Totals) : Type 0 where
  pub rules : r.rules ≡ length (kept_bodies U.copies)
  pub atoms : r.atoms ≡ atom_count (kept_bodies U.copies)

-- The same with those of the constraints, and bounds of all.
pub record TotalsOf (U : Unfolded) (r : Totals) : Type 0 where
  pub kept : KeptTotals U r
  pub constraints : r.constraints ≡ length U.constraints
  pub literals : r.literals ≡ atom_count U.constraints
  pub few_rules : r.rules ≤ 122880
  pub few_atoms : r.atoms ≤ 15851520
  pub few_constraints : r.constraints ≤ 192
  pub few_literals : r.literals ≤ 24768
