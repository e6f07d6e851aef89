-- `body_words::put_each` meets its contract, one law for each way through it.
use Rattle.body_words.proofs.Body.{VarsLeft}
use Rattle.body_words.proofs.put_each.Given as goal

abbrev pub invariant-loop-left : goal.invariant-loop-left
invariant-loop-left l = VarsLeft l.vars l.initial.out l.at l.x l.out l.next l.left

abbrev pub decreases-loop-left : goal.decreases-loop-left
decreases-loop-left l = l.left
