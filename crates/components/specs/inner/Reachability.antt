-- Tables of rows of bits: what the steps promise that find the components of a program.
use Rattle.std.specs.Prelude.{Bool, true, ◌&&◌, ◌||◌, List, ◌≡◌, ℕ, zero, suc, ◌≤◌, ◌<◌, eqb, ltb, leb, length, get_or}
use Rattle.lists.specs.Lists.{all, filter, range}
use Rattle.asp.specs.Program.{Program, well_formed}
use Rattle.unfolding.specs.Graph.{edge, first, component}
use Rattle.bits.specs.inner.Sets.{has}

-- A relation between atoms.
abbrev pub Relation : Type 0
Relation = ℕ → ℕ → Bool

-- One round of the closure: a is related to b, or to k and k to b.
abbrev pub through : ℕ → Relation → Relation
through k R a b = R a b || R a k && R k b

-- The rounds for 0 .. k - 1.
unfoldable pub closure : Relation → ℕ → Relation
closure R zero = R
closure R (suc k) = through k (closure R k)

-- The table's first n rows hold the relation.
pub record Holds (n : ℕ) (R : Relation) (rows : List ℕ) : Type 0 where
  pub long : length rows ≡ 64
  pub bits : (a : ℕ) → a < n → (b : ℕ) → has (get_or rows a 0) b ≡ R a b

-- The edges of the program, each in the row of the atom that it leads to.
abbrev pub EdgesOf : Program → List ℕ → Type 0
EdgesOf P rows = Holds P.atoms (λ a b. edge P b a) rows

-- A row x after the round for k, whose row is given.
pub record RowThrough (x k row r : ℕ) : Type 0 where
  pub bits : (b : ℕ) → has r b ≡ (has x b || has x k && has row b)

-- A table after the round for k of its first n rows.
pub record ClosedBy (k n : ℕ) (rows new : List ℕ) : Type 0 where
  pub long : length new ≡ length rows
  pub closes : (R : Relation) → Holds n R rows → Holds n (through k R) new

-- A table after the rounds for 0 .. n - 1.
pub record ClosedTable (n : ℕ) (rows new : List ℕ) : Type 0 where
  pub closes : (R : Relation) → Holds n R rows → Holds n (closure R n) new

-- Both atoms lead to each other.
abbrev pub both_ways : List ℕ → ℕ → ℕ → Bool
both_ways rows a b = has (get_or rows a 0) b && has (get_or rows b 0) a

-- The first atom up to a that leads to a and to which a leads.
pub record NameOf (rows : List ℕ) (a r : ℕ) : Type 0 where
  pub is : r ≡ first (both_ways rows a) a (range 0 a)
  pub low : r ≤ a

-- The names of the first n atoms, of a closed table.
pub record NamedBy (n : ℕ) (rows names : List ℕ) : Type 0 where
  pub long : length names ≡ 64
  pub name : (a : ℕ) → a < n → NameOf rows a (get_or names a 0)

-- The names of the first n atoms have sets.
pub record NamesLow (n : ℕ) (names : List ℕ) : Type 0 where
  pub low : (a : ℕ) → a < n → get_or names a 0 < 64

-- The names of the components of a program's atoms.
pub record NamesOf (P : Program) (names : List ℕ) : Type 0 where
  pub long : length names ≡ 64
  pub name : (a : ℕ) → a < P.atoms → get_or names a 0 ≡ component P a

-- The set of each name: the atoms below n that have it.
pub record SetsOf (names : List ℕ) (n : ℕ) (sets : List ℕ) : Type 0 where
  pub members : (c : ℕ) → c < 64 → (b : ℕ) → has (get_or sets c 0) b ≡ (ltb b n && eqb (get_or names b 0) c)

-- The atoms below n with the name c.
unfoldable pub named : List ℕ → ℕ → ℕ → List ℕ
named names c n = filter (λ a. eqb (get_or names a 0) c) (range 0 n)

-- Question 7, by names.
unfoldable pub names_fit : ℕ → List ℕ → ℕ → Bool
names_fit most names n = all (λ c. leb (length (named names c n)) most) (range 0 n)

-- r is the size of the largest set: question 7 with any limit.
pub record Largest (n : ℕ) (sets : List ℕ) (r : ℕ) : Type 0 where
  pub is : (names : List ℕ) → SetsOf names n sets → (most : ℕ) → leb r most ≡ names_fit most names n

-- The components of a program: their names and sets.
pub record ComponentsOf (P : Program) (names sets : List ℕ) : Type 0 where
  pub named : NamesOf P names
  pub grouped : SetsOf names P.atoms sets

-- The components of every program of n atoms with these edges.
pub record GraphOf (n : ℕ) (edges names sets : List ℕ) : Type 0 where
  pub is : (P : Program) → well_formed P ≡ true → P.atoms ≡ n → EdgesOf P edges → ComponentsOf P names sets
