-- `translation::choices_in` meets its contract, one law for each way through it.
use Rattle.translation.proofs.Records.{Choosing}
use Rattle.translation.proofs.choices_in.Given as goal

abbrev pub invariant-loop-j : goal.invariant-loop-j
invariant-loop-j l = Choosing l.records l.m l.j l.number
