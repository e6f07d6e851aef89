-- `counting::firsts` meets its contract, one law for each way through it.
use borrow.Author.Rules.{rules}
use Rattle.counting.proofs.Returning.{meeting_turn}
use Rattle.counting.proofs.firsts.Goals as goal

pub loop-j-preserved : goal.loop-j-preserved
loop-j-preserved c = search (rules, meeting_turn)
