-- `counting::returns_of` meets its contract, one law for each way through it.
use borrow.Author.Rules.{rules}
use Rattle.counting.proofs.Returning.{filling_turn}
use Rattle.counting.proofs.returns_of.Goals as goal

pub loop-j-preserved : goal.loop-j-preserved
loop-j-preserved c = search (rules, filling_turn)
