-- The chain question of one component: a table over the sets of its atoms.
use Rattle.std.specs.Prelude.{Bool, true, false, not, ◌&&◌, ◌||◌, List, ◌∷◌, ◌↔◌, ◌≡◌, ℕ, ◌^◌, ◌≤◌, ◌<◌, eqb, ltb, get_or}
use Rattle.asp.specs.Program.{Program, well_formed}
use Rattle.unfolding.specs.Graph.{edge, same_component}
use Rattle.unfolding.specs.inner.Started.{Started}
use Rattle.bits.specs.inner.Sets.{has}

-- A table of so many rows has one for each set of k places, and k is at most ten.
pub record Roomy (k rows : ℕ) : Type 0 where
  pub few : k ≤ 10
  pub room : 2 ^ k ≤ rows

-- The first k atoms of the list are a component; place p is that of the p-th. Row a of the table of edges has the atoms with an edge to a.
pub record Setting (P : Program) (rows atoms : List ℕ) (k : ℕ) : Type 0 where
  pub formed : well_formed P ≡ true
  pub edges : (a : ℕ) → a < P.atoms → (b : ℕ) → has (get_or rows a 0) b ≡ edge P b a
  pub low : (p : ℕ) → p < k → get_or atoms p 0 < P.atoms
  pub apart : (p q : ℕ) → p < k → q < k → get_or atoms p 0 ≡ get_or atoms q 0 → p ≡ q
  pub joined : (p q : ℕ) → p < k → q < k → same_component P (get_or atoms p 0) (get_or atoms q 0) ≡ true
  pub whole : (p : ℕ) → p < k → (b : ℕ) → same_component P (get_or atoms p 0) b ≡ true → (q : ℕ) × (q < k) × (get_or atoms q 0 ≡ b)

-- The atoms whose places are in the set.
abbrev pub AtPlaces : List ℕ → ℕ → ℕ → ℕ → Type 0
AtPlaces atoms k S b = (q : ℕ) × (q < k) × (get_or atoms q 0 ≡ b) × (has S q ≡ true)

-- The row of each set has those of its places from which every chain within the set is found in s.
pub record SubsetTable (P : Program) (atoms : List ℕ) (k : ℕ) (table s : List ℕ) : Type 0 where
  pub right : (S : ℕ) → S < 2 ^ k → (p : ℕ) → p < k → has S p ≡ true → (has (get_or table S 0) p ≡ true) ↔ Started P s (AtPlaces atoms k S) (get_or atoms p 0)

-- The row of a set after an entry of the atom at place i, which has edges to the places `after`: place i comes in where the set
-- has it and the row of the set without it has all the places that follow.
pub record RowAfter (table : List ℕ) (S i after r : ℕ) : Type 0 where
  pub less : ℕ
  pub falls : less ≤ S
  pub without : (q : ℕ) → has less q ≡ (has S q && not (eqb q i))
  pub covered : Bool
  pub asked : has S i ≡ true → (covered ≡ true) ↔ ((q : ℕ) → has after q ≡ true → has less q ≡ true → has (get_or table less 0) q ≡ true)
  pub members : (p : ℕ) → has r p ≡ (has (get_or table S 0) p || eqb p i && (has S i && covered))

-- r is the first set above S that has place i.
pub record NextWith (S i r : ℕ) : Type 0 where
  pub rises : S < r
  pub own : has r i ≡ true
  pub between : (T : ℕ) → S < T → T < r → has T i ≡ false

-- All rows below a size.
pub record TableAfter (old : List ℕ) (size i after : ℕ) (new : List ℕ) : Type 0 where
  pub rows : (S : ℕ) → S < size → RowAfter old S i after (get_or new S 0)

-- The places that the atom x has edges to.
pub record Followers (rows atoms : List ℕ) (k x r : ℕ) : Type 0 where
  pub members : (q : ℕ) → has r q ≡ (ltb q k && has (get_or rows (get_or atoms q 0) 0) x)

-- r is the number of sets of k places.
pub record Power (k r : ℕ) : Type 0 where
  pub is : r ≡ 2 ^ k
  pub some : 1 ≤ r
  pub small : r ≤ 1024

-- The table `new` is `old` with an entry of x more, in front of those read.
pub record WithEntry (rows atoms : List ℕ) (k x : ℕ) (old new : List ℕ) : Type 0 where
  pub turns : (P : Program) (s : List ℕ) → Setting P rows atoms k → SubsetTable P atoms k old s → SubsetTable P atoms k new (x ∷ s)
