-- `lparse_output::put_records` meets its contract, one law for each way through it.
use Rattle.lparse_output.proofs.Parts.{RecordsLeft}
use Rattle.lparse_output.proofs.put_records.Given as goal

abbrev pub invariant-loop-j : goal.invariant-loop-j
invariant-loop-j l = RecordsLeft l.records l.m l.initial.out l.out l.next l.j
