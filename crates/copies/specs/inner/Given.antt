-- The table and the unfolded program of what the emitters are given.
use Rattle.unfolding.specs.Unfolded.{Unfolded}
use Rattle.program.specs.inner.Held.{ProgramTable, table_of}
use Rattle.copies.specs.inner.Ready.{Ready, unfolded_in}
use Rattle.copies.specs.declared.given.Unfolding.{Unfolding}

-- The table of the program.
abbrev pub table_in : Unfolding → ProgramTable
table_in u = table_of u.size u.records.now u.program.now

-- What the emitters ask of it.
abbrev pub ReadyIn : Unfolding → Type 0
ReadyIn u = Ready (table_in u) u.components.now u.q.now

-- The unfolded program.
abbrev pub unfolded_by : Unfolding → Unfolded
unfolded_by u = unfolded_in (table_in u) u.q.now
