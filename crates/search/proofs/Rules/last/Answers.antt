-- `search::Rules::last` meets its contract, one law for each way through it.
use borrow.Author.Rules.{rules}
use Rattle.search.proofs.Search.{last_met, last_leaf}
use Rattle.search.proofs.Rules.last.Goals as goal

pub returns-then-intersection-ne0 : goal.returns-then-intersection-ne0
returns-then-intersection-ne0 c = search (rules, last_met)

pub returns : goal.returns
returns c = search (rules, last_leaf)
