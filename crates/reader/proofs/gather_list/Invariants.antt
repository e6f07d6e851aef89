use Rattle.reader.proofs.Reading.{Reading}
use Rattle.reader.proofs.gather_list.Given as goal

abbrev pub invariant-loop-b : goal.invariant-loop-b
invariant-loop-b l = Reading l.n l.l l.b-index l.low l.set
