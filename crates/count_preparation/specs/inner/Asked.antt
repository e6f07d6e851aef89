-- Records that can be counted, and the atoms to decide, as a set.
use Rattle.std.specs.Prelude.{Bool, ◌&&◌, ◌||◌, List, ◌≡◌, ℕ, ◌≤◌, ◌<◌, eqb}
use Rattle.lists.specs.Lists.{any, range}
use Rattle.bits.specs.inner.Sets.{has}
use Rattle.tables.specs.inner.Rows.{row_at}
use Rattle.tables.specs.declared.SheetRecord.{SheetRecord}

-- m records, of which those that are no constraints have heads below 64.
pub record Countable (m : ℕ) (t : List ℕ) : Type 0 where
  pub few : m ≤ 128
  pub low : (j : ℕ) → j < m → ((row_at t j).kind ≡ 1 → ⊥) → (row_at t j).head < 64

-- The record asks for the atom.
unfoldable pub asks_by : SheetRecord → ℕ → Bool
asks_by r a = (eqb r.kind 0 || eqb r.kind 2) && has r.neg a || eqb r.kind 2 && eqb r.head a

-- y is the set x with the atoms that the record asks for.
pub record WithAsked (x : ℕ) (r : SheetRecord) (y : ℕ) : Type 0 where
  pub members : (a : ℕ) → has y a ≡ (asks_by r a || has x a)

-- r has the atoms that one of the first m records asks for.
pub record AskedIn (t : List ℕ) (m r : ℕ) : Type 0 where
  pub members : (a : ℕ) → has r a ≡ any (λ j. asks_by (row_at t j) a) (range 0 m)
