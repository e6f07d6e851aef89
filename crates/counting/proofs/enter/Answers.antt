-- `counting::enter` meets its contract, one law for each way through it.
use borrow.Author.Rules.{rules}
use Rattle.counting.proofs.Returning.{entering_turn}
use Rattle.counting.proofs.enter.Goals as goal

pub loop-left-preserved : goal.loop-left-preserved
loop-left-preserved c = search (rules, entering_turn)
