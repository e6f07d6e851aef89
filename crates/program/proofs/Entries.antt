-- The program of a table, and the rule at an entry.
use mathlib.Core.List.{List}
use mathlib.Core.Path.{◌≡◌, refl}
use Prim.Native.Nat.{ℕ, ◌<◌}
use native.Mathlib.Omega.{arith}
use Rattle.tables.specs.inner.Rows.{row_at, entry_at}
use Rattle.tables.specs.declared.ProgramEntry.{ProgramEntry}
use Rattle.tables.specs.declared.SheetRecord.{SheetRecord}
use Rattle.program.specs.inner.Held.{table_rule, ProgramTable, program_in}

pub program_atoms : (t : ProgramTable) → (program_in t).atoms ≡ t.atoms
unfolding program_in
program_atoms t = refl

-- A source is one of 128 records.
pub source_low : (entries : List ℕ) (i : ℕ) (e : ProgramEntry) (j : ℕ) → e ≡ entry_at entries i → j ≡ e.source → j < 128
unfolding entry_at
source_low entries i e j E J = rw (J, E) (omega arith)

pub rule_read : (records entries : List ℕ) (i : ℕ) (e : ProgramEntry) (j : ℕ) (r : SheetRecord) → e ≡ entry_at entries i → j ≡ e.source → r ≡ row_at records j
    → record { head = e.head; pos = r.pos; neg = r.neg; added = e.added } ≡ table_rule records entries i
unfolding table_rule
rule_read records entries i e j r E J R = rw (R, J, E) refl
