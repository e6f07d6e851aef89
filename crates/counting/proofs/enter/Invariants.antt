-- `counting::enter` meets its contract, one law for each way through it.
use Rattle.counting.proofs.Returning.{Entering}
use Rattle.counting.proofs.enter.Given as goal

abbrev pub invariant-loop-left : goal.invariant-loop-left
invariant-loop-left l = Entering l.initial.at l.set l.j l.left l.at

abbrev pub decreases-loop-left : goal.decreases-loop-left
decreases-loop-left l = l.left
