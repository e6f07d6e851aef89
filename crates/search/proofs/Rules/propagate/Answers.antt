-- `search::Rules::propagate` meets its contract, one law for each way through it.
use borrow.Author.Rules.{rules}
use Rattle.search.proofs.Propagating.{propagating_turn}
use Rattle.search.proofs.Rules.propagate.Goals as goal

pub loop-p-preserved : goal.loop-p-preserved
loop-p-preserved c = search (rules, propagating_turn, c.in_ok-p-2.ensures)
