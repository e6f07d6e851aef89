-- `search::Rules::least` meets its contract, one law for each way through it.
use borrow.Author.Rules.{rules}
use Rattle.search.proofs.Passes.{passing_turn, passing_end}
use Rattle.search.proofs.Rules.least.Goals as goal

pub loop-j-preserved : goal.loop-j-preserved
loop-j-preserved c = search (rules, passing_turn)

pub returns : goal.returns
returns c = search (rules, passing_end)
