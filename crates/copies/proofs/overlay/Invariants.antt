-- `copies::overlay` meets its contract, one law for each way through it.
use Rattle.copies.proofs.Tables.{Overlaying}
use Rattle.copies.proofs.overlay.Given as goal

abbrev pub invariant-loop-left : goal.invariant-loop-left
invariant-loop-left l = Overlaying l.set l.source l.initial.vars l.left l.vars

abbrev pub decreases-loop-left : goal.decreases-loop-left
decreases-loop-left l = l.left
