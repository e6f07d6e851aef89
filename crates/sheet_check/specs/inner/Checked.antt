-- What the questions about a sheet promise: the refusal, and what is known where there is none.
use Rattle.std.specs.Prelude.{true, ◌&&◌, List, ◌≡◌, ℕ, ◌+◌, ◌≤◌, leb, length, replicate, Result}
use Rattle.refusals.specs.declared.Refusal.{Refusal}
use Rattle.refusals.specs.Asked.{Asked}
use Rattle.sheet.specs.Questions.{ask, ◌then◌}
use Rattle.sheet.specs.Format.{atoms_byte, records_byte}
use Rattle.sheet.specs.inner.Walk.{form_refusal}
use Rattle.sheet.specs.Sheet.{Record, records, choices, program_of, program}
use Rattle.sheet.specs.declared.Limits.{Limits}
use Rattle.reader.specs.inner.Tabled.{records_at, ExactSets}
use Rattle.translation.specs.inner.Records.{Records, records_in, Expandable}
use Rattle.components.specs.Limit.{components_fit}
use Rattle.components.specs.inner.Reachability.{EdgesOf, ComponentsOf}
use Rattle.operations.specs.inner.Refusals.{bytes_refusal, graph_refusal, sheet_refusal}
use Rattle.sheet_check.specs.declared.SheetNumbers.{SheetNumbers}

-- A sheet whose bytes and records are not refused.
pub record BytesAccepted (L : Limits) (s : List ℕ) (r : SheetNumbers) : Type 0 where
  pub form : form_refusal L s ≡ 0
  pub number : r.records ≡ records_byte s
  pub written : r.written ≡ atoms_byte s
  pub atoms : r.atoms ≡ (program s).atoms
  pub low : r.atoms ≤ 64

-- The table holds the records of the sheet.
pub record RecordsKept (s t : List ℕ) (r : SheetNumbers) : Type 0 where
  pub list : records_at t 0 r.records ≡ records s
  pub exact : ExactSets r.records t
  pub long : length t ≡ 384

-- Both, where there is no refusal.
pub record BytesPassed (L : Limits) (s t : List ℕ) (r : SheetNumbers) : Type 0 where
  pub accepted : BytesAccepted L s r
  pub kept : RecordsKept s t r

-- The questions about the bytes and the records of a sheet, and its records where there is no refusal.
abbrev pub BytesChecked : Limits → List ℕ → List ℕ → Result SheetNumbers Refusal → Type 0
BytesChecked L s t r = Asked (bytes_refusal L s) (BytesPassed L s t) r

-- Records in a table that can be made a program, of so many atoms.
pub record Expands (t : Records) (r : SheetNumbers) : Type 0 where
  pub expandable : Expandable r.written t
  pub atoms : r.atoms ≡ r.written + choices (records_in t)

-- Arrays for a graph, of 64 rows; those of the edges and of the sets are empty.
pub record GraphArrays (es ns ss : List ℕ) : Type 0 where
  pub edges : es ≡ replicate 64 0
  pub names : length ns ≡ 64
  pub sets : ss ≡ replicate 64 0

-- The refusal of the questions about components, where the largest has so many of n atoms.
unfoldable pub sizes_refusal : Limits → ℕ → ℕ → ℕ
sizes_refusal L n largest = ask (leb largest L.component) 7 then ask (leb n L.taken.atoms && leb largest L.taken.component) 15

-- The questions about the graph of records over n written atoms, with its edges, names and sets.
pub record GraphChecked (L : Limits) (n : ℕ) (rs : List Record) (es cs ss : List ℕ) (r : ℕ) : Type 0 where
  pub says : r ≡ graph_refusal L (program_of n rs)
  pub edged : EdgesOf (program_of n rs) es
  pub graph : ComponentsOf (program_of n rs) cs ss

-- A sheet that is not refused, with its components' names and sets.
pub record SheetAccepted (L : Limits) (s names sets : List ℕ) (r : SheetNumbers) : Type 0 where
  pub bytes : BytesAccepted L s r
  pub graph : ComponentsOf (program s) names sets
  pub limit : components_fit L.component (program s) ≡ true
  pub taken : components_fit L.taken.component (program s) ≡ true

-- Its edges too.
pub record SheetPassed (L : Limits) (s edges names sets : List ℕ) (r : SheetNumbers) : Type 0 where
  pub accepted : SheetAccepted L s names sets r
  pub edged : EdgesOf (program s) edges

-- The questions about a sheet, and its edges, names and sets where there is no refusal.
abbrev pub SheetChecked : Limits → List ℕ → List ℕ → List ℕ → List ℕ → Result SheetNumbers Refusal → Type 0
SheetChecked L s edges names sets r = Asked (sheet_refusal L s) (SheetPassed L s edges names sets) r

-- Its records too.
pub record RecordsPassed (L : Limits) (s t edges names sets : List ℕ) (r : SheetNumbers) : Type 0 where
  pub sheet : SheetPassed L s edges names sets r
  pub kept : RecordsKept s t r

-- The questions about a sheet, and its records where there is no refusal.
abbrev pub RecordsChecked : Limits → List ℕ → List ℕ → List ℕ → List ℕ → List ℕ → Result SheetNumbers Refusal → Type 0
RecordsChecked L s t edges names sets r = Asked (sheet_refusal L s) (RecordsPassed L s t edges names sets) r
