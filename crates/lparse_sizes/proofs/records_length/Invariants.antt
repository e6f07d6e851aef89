-- `lparse_sizes::records_length` meets its contract, one law for each way through it.
use Rattle.lparse_sizes.proofs.Lengths.{RecordsAdding}
use Rattle.lparse_sizes.proofs.records_length.Given as goal

abbrev pub invariant-loop-j : goal.invariant-loop-j
invariant-loop-j l = RecordsAdding l.records l.m l.t l.j
