use Rattle.component_output.proofs.Loops.{AtomsLeft}
use Rattle.component_output.proofs.put_set.Given as goal

abbrev pub invariant-loop-left : goal.invariant-loop-left
invariant-loop-left l = AtomsLeft l.initial.out l.at l.x l.out l.next l.left

abbrev pub decreases-loop-left : goal.decreases-loop-left
decreases-loop-left l = l.left
