-- `components::largest` meets its contract, one law for each way through it.
use Rattle.components.proofs.Naming.{Growing}
use Rattle.components.proofs.largest.Given as goal

abbrev pub invariant-loop-x : goal.invariant-loop-x
invariant-loop-x l = Growing l.n l.sets l.most l.x-index
