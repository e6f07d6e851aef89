-- `search::Rules::lawful` meets its contract, one law for each way through it.
use borrow.Author.Rules.{rules}
use Rattle.search.proofs.Constraints.{obeying_turn, obeying_violated, obeying_end}
use Rattle.search.proofs.Rules.lawful.Goals as goal

pub returns-then-body_holds : goal.returns-then-body_holds
returns-then-body_holds c = search (rules, obeying_violated)

pub loop-j-preserved : goal.loop-j-preserved
loop-j-preserved c = search (rules, obeying_turn)

pub returns : goal.returns
returns c = search (rules, obeying_end)
