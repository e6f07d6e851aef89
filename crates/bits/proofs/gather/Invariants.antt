use Rattle.bits.proofs.Gathering.{Gathering}
use Rattle.bits.proofs.gather.Given as goal

abbrev pub invariant-loop-b : goal.invariant-loop-b
invariant-loop-b l = Gathering l.l l.b-index l.x
