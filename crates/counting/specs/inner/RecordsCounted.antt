-- What the count of a sheet's records promises.
use Rattle.std.specs.Prelude.{List, Option, MatchOption, ◌≡◌, ℕ, ◌≤◌, ◌<◌, length}
use Rattle.asp.specs.Count.{count}
use Rattle.sheet.specs.Sheet.{program_of}
use Rattle.sheet.specs.inner.Walk.{AllSound}
use Rattle.reader.specs.inner.Tabled.{records_at}
use Rattle.counting.specs.DecisionAtoms.{decision_atoms}

-- The number of stable models, whatever the number of written atoms is.
pub record ModelsCounted (m : ℕ) (t : List ℕ) (r : ℕ) : Type 0 where
  pub is : (n : ℕ) → n ≤ 64 → AllSound n (records_at t 0 m) → r ≡ count (program_of n (records_at t 0 m))

-- More than 16 atoms are to be decided.
pub record Crowded (m : ℕ) (t : List ℕ) : Type 0 where
  pub many : (n : ℕ) → n ≤ 64 → AllSound n (records_at t 0 m) → 16 < length (decision_atoms n (records_at t 0 m))

-- At most 16 atoms are to be decided, and r is the number of stable models.
pub record Exact (m : ℕ) (t : List ℕ) (r : ℕ) : Type 0 where
  pub few : (n : ℕ) → n ≤ 64 → AllSound n (records_at t 0 m) → length (decision_atoms n (records_at t 0 m)) ≤ 16
  pub counted : ModelsCounted m t r

-- Whether more than 16 atoms are to be decided, and if not the number of stable models.
abbrev pub RecordsCounted : ℕ → List ℕ → Option ℕ → Type 0
RecordsCounted m t r = MatchOption r (Crowded m t) (Exact m t)
