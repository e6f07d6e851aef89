-- The records of a sheet in a table, as the functions here take them.
use Rattle.std.specs.Prelude.{List, ◌≡◌, ℕ, ◌+◌, ◌-◌, ◌≤◌, ◌<◌}
use Rattle.tables.specs.declared.SheetRecord.{SheetRecord}
use Rattle.sheet.specs.Sheet.{Record, choices}
use Rattle.sheet.specs.inner.Walk.{AllSound}
use Rattle.reader.specs.inner.Tabled.{records_at}

-- The first `count` records of a table.
pub record Records : Type 0 where
  pub count : ℕ
  pub words : List ℕ

abbrev pub held : ℕ → List ℕ → Records
held m t = record { count = m; words = t }

-- The records from the j-th on, and all of them.
abbrev pub records_from : Records → ℕ → List Record
records_from t j = records_at t.words j (t.count - j)

abbrev pub records_in : Records → List Record
records_in t = records_at t.words 0 t.count

-- r is the number of choice rules of the first m records.
pub record ChoicesIn (t : List ℕ) (m r : ℕ) : Type 0 where
  pub is : r ≡ choices (records_at t 0 m)
  pub few : r ≤ m

-- Records over n written atoms that have passed, with all fresh atoms below 64.
pub record Expandable (n : ℕ) (t : Records) : Type 0 where
  pub few : t.count ≤ 128
  pub sound : AllSound n (records_in t)
  pub low : n + choices (records_in t) ≤ 64

-- The head of a rule, and the fresh atom of a choice rule, are below 64.
pub record FreshFor (r : SheetRecord) (fresh : ℕ) : Type 0 where
  pub heads : r.kind ≡ 0 → r.head < 64
  pub choice : r.kind ≡ 2 → (r.head < 64) × (fresh < 64)
