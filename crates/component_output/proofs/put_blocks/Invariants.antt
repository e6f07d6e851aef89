use Rattle.component_output.proofs.Loops.{BlocksLeft}
use Rattle.component_output.proofs.put_blocks.Given as goal

abbrev pub invariant-loop-x : goal.invariant-loop-x
invariant-loop-x l = BlocksLeft l.sets l.n l.initial.out l.at l.out l.next l.x-index
