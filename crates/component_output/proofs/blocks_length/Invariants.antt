use Rattle.component_output.proofs.Loops.{Adding}
use Rattle.component_output.proofs.blocks_length.Given as goal

abbrev pub invariant-loop-x : goal.invariant-loop-x
invariant-loop-x l = Adding l.sets l.n l.x-index l.t
