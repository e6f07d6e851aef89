-- `body_operations::record_place` meets its contract, one law for each way through it.
use Rattle.body_operations.proofs.Bodies.{Going}
use Rattle.body_operations.proofs.record_place.Given as goal

abbrev pub invariant-loop-i : goal.invariant-loop-i
invariant-loop-i l = Going l.s l.n l.m l.number l.at l.i
