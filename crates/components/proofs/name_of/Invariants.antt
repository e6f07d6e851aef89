use Rattle.components.proofs.Naming.{Seeking}
use Rattle.components.proofs.name_of.Given as goal

abbrev pub invariant-loop-left : goal.invariant-loop-left
invariant-loop-left l = Seeking l.rows l.a l.left

abbrev pub decreases-loop-left : goal.decreases-loop-left
decreases-loop-left l = l.left
