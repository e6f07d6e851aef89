-- Records as a table holds them (kinds, heads, and sets of atoms), and what reading them promises.
use Rattle.std.specs.Prelude.{List, map, ◌≡◌, ℕ, ◌≤◌, ◌<◌, length, Result, IfOk, IfErr}
use Rattle.lists.specs.Lists.{member, range}
use Rattle.bits.specs.inner.Sets.{has, Gathered}
use Rattle.bits.specs.inner.Visited.{listed}
use Rattle.tables.specs.inner.Rows.{row_at}
use Rattle.tables.specs.declared.SheetRecord.{SheetRecord}
use Rattle.refusals.specs.declared.Refusal.{Refusal}
use Rattle.refusals.specs.Numbers.{number}
use Rattle.refusals.specs.Asked.{Asked}
use Rattle.sheet.specs.Questions.{ask}
use Rattle.sheet.specs.Format.{end, list_fits, lists_fit, atoms_byte, records_byte}
use Rattle.sheet.specs.inner.Walk.{record_refusal, records_refusal, form_refusal}
use Rattle.sheet.specs.Sheet.{Record, record_at, records_from}
use Rattle.sheet.specs.declared.Limits.{Limits}
use Rattle.reader.specs.declared.Entry.{Entry}
use Rattle.reader.specs.declared.Header.{Header}

-- The record of a row.
unfoldable pub record_of : SheetRecord → Record
record_of r = record { kind = r.kind; head = r.head; body = record { pos = listed r.pos; neg = listed r.neg } }

-- The records of k rows, from the j-th on.
unfoldable pub records_at : List ℕ → ℕ → ℕ → List Record
records_at t j k = map (λ i. record_of (row_at t i)) (range j k)

-- The set has what its list says, so no number from 64 on.
abbrev pub Exact : ℕ → Type 0
Exact x = (a : ℕ) → has x a ≡ member a (listed x)

-- Both sets of a row are exact; those of the first m rows are.
pub record ExactRow (r : SheetRecord) : Type 0 where
  pub pos : Exact r.pos
  pub neg : Exact r.neg

abbrev pub ExactSets : ℕ → List ℕ → Type 0
ExactSets m t = (j : ℕ) → j < m → ExactRow (row_at t j)

-- Question 6 of a list, and its set.
abbrev pub ListRead : ℕ → List ℕ → Result ℕ Refusal → Type 0
ListRead n l r = Asked (ask (list_fits n l) 6) (Gathered l) r

-- The record at `at` is read.
pub record Taken (s : List ℕ) (at : ℕ) (r : Entry) : Type 0 where
  pub end : r.end ≡ end s at
  pub is : record_of r.row ≡ record_at s at
  pub exact : ExactRow r.row

-- Question 6 of a record, and what is read.
abbrev pub ListsRead : ℕ → List ℕ → ℕ → Result Entry Refusal → Type 0
ListsRead n s at r = Asked (ask (lists_fit n s at) 6) (Taken s at) r

-- Questions 4 to 6 of a record, and what is read.
abbrev pub EntryRead : ℕ → List ℕ → ℕ → Result Entry Refusal → Type 0
EntryRead n s at r = Asked (record_refusal n s at) (Taken s at) r

-- A header that passes: its numbers, and what is left of questions 1 to 6.
pub record HeaderPassed (L : Limits) (s : List ℕ) (r : Header) : Type 0 where
  pub long : 5 ≤ length s
  pub atoms : r.atoms ≡ atoms_byte s
  pub records : r.records ≡ records_byte s
  pub low : r.atoms ≤ L.atoms
  pub few : r.records ≤ L.records
  pub rest : form_refusal L s ≡ records_refusal r.records r.atoms s 5

-- Questions 1 to 3.
pub record HeaderRead (L : Limits) (s : List ℕ) (r : Result Header Refusal) : Type 0 where
  pub refused : IfErr r (λ e. number e ≡ form_refusal L s)
  pub passed : IfOk r (HeaderPassed L s)

-- The records of the sheet stand in the table.
pub record Tabled (m : ℕ) (s t : List ℕ) : Type 0 where
  pub stored : records_at t 0 m ≡ records_from m s 5
  pub exact : ExactSets m t

-- Questions 4 to 6 of m records, and the records as they are stored.
pub record RecordsRead (n m : ℕ) (s t : List ℕ) (r : Result (Unit {0}) Refusal) : Type 0 where
  pub asked : Asked (records_refusal m n s 5) (λ _. Tabled m s t) r
  pub long : length t ≡ 384
