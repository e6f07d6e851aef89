-- `search::Rules::propagate_once` meets its contract, one law for each way through it.
use borrow.Author.Rules.{rules}
use Rattle.search.proofs.Propagating.{round_met, round_then}
use Rattle.search.proofs.Rules.propagate_once.Goals as goal

pub returns-then-intersection-ne0 : goal.returns-then-intersection-ne0
returns-then-intersection-ne0 c = search (rules, round_met)

pub returns : goal.returns
returns c = search (rules, round_then)
