-- Where a record and an entry of a program stand in their arrays. Only this file and the laws of proofs/Rows.antt know it.
use Rattle.std.specs.Prelude.{List, ℕ, ◌+◌, ◌*◌, ◌/◌, ◌%◌, get_or}
use Rattle.tables.specs.declared.SheetRecord.{SheetRecord}
use Rattle.tables.specs.declared.ProgramEntry.{ProgramEntry}

-- The record at j: three words.
unfoldable pub row_at : List ℕ → ℕ → SheetRecord
row_at t j = record { kind = get_or t (3 * j) 0 / 256 % 256; head = get_or t (3 * j) 0 % 256; pos = get_or t (3 * j + 1) 0; neg = get_or t (3 * j + 2) 0 }

-- The entry at i: three parts of a word.
unfoldable pub entry_at : List ℕ → ℕ → ProgramEntry
entry_at p i = record { head = get_or p i 0 % 256; source = get_or p i 0 / 256 % 128; added = get_or p i 0 / 65536 % 256 }
