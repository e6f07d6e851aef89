-- The chain question, component by component.
use Rattle.std.specs.Prelude.{Bool, true, ◌&&◌, ◌↔◌, ◌≡◌, ℕ, ◌≤◌, ◌<◌, eqb, ltb, length, get_or}
use mathlib.Core.List.{List, ◌∷◌, Sublistᴰ}
use Rattle.asp.specs.Program.{Program, well_formed}
use Rattle.unfolding.specs.Graph.{edge, component}
use Rattle.unfolding.specs.Chain.{Chain, passes}
use Rattle.bits.specs.inner.Sets.{has}
use Rattle.bits.specs.inner.Visited.{listed}
use Rattle.chain_rows.specs.inner.Subsets.{Roomy, Setting}

-- Whether every chain of the component is found in s.
pub record Tested (rows atoms : List ℕ) (k : ℕ) (s : List ℕ) (r : Bool) : Type 0 where
  pub is : (P : Program) → Setting P rows atoms k → (r ≡ true) ↔ ((p : ℕ) → p < k → (w : List ℕ) → Chain P (get_or atoms p 0 ∷ w) → Sublistᴰ (get_or atoms p 0 ∷ w) s)

-- A program with the table of its edges: row a has the atoms with an edge to a.
pub record Edged (P : Program) (rows : List ℕ) : Type 0 where
  pub formed : well_formed P ≡ true
  pub low : P.atoms ≤ 64
  pub edges : (a : ℕ) → a < P.atoms → (b : ℕ) → has (get_or rows a 0) b ≡ edge P b a

-- x is the set of the atoms of the component named c.
pub record Members (P : Program) (c x : ℕ) : Type 0 where
  pub members : (a : ℕ) → has x a ≡ (ltb a P.atoms && eqb (component P a) c)

-- The chains of the component named c.
pub record ComponentTested (P : Program) (c : ℕ) (s : List ℕ) (r : Bool) : Type 0 where
  pub is : (r ≡ true) ↔ ((a : ℕ) (w : List ℕ) → Chain P (a ∷ w) → component P a ≡ c → Sublistᴰ (a ∷ w) s)

-- The chains of the component with these atoms.
pub record SetTested (rows : List ℕ) (x : ℕ) (s : List ℕ) (r : Bool) : Type 0 where
  pub is : (P : Program) (c : ℕ) → Edged P rows → Members P c x → ComponentTested P c s r

-- A program of n atoms with its edges and the set of each component's name.
pub record Graph (P : Program) (n : ℕ) (rows sets : List ℕ) : Type 0 where
  pub size : P.atoms ≡ n
  pub edged : Edged P rows
  pub grouped : (c : ℕ) → c < 64 → Members P c (get_or sets c 0)

-- A table of so many rows has one for each set of atoms of any component, and components have at most ten atoms.
pub record Small (n : ℕ) (sets : List ℕ) (rows : ℕ) : Type 0 where
  pub few : (c : ℕ) → c < n → Roomy (length (listed (get_or sets c 0))) rows

-- The chain question.
pub record PassesBy (n : ℕ) (rows sets s : List ℕ) (r : Bool) : Type 0 where
  pub is : (P : Program) → Graph P n rows sets → r ≡ passes P s
