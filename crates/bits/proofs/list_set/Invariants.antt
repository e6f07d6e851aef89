use Rattle.bits.proofs.Listing.{Walking}
use Rattle.bits.proofs.list_set.Given as goal

abbrev pub invariant-loop-left : goal.invariant-loop-left
invariant-loop-left l = Walking l.x l.left l.atoms.items

abbrev pub decreases-loop-left : goal.decreases-loop-left
decreases-loop-left l = l.left
