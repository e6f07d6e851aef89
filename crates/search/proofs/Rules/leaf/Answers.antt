-- `search::Rules::leaf` meets its contract, one law for each way through it.
use borrow.Author.Rules.{rules}
use Rattle.search.proofs.Search.{leaf_tested}
use Rattle.search.proofs.Rules.leaf.Goals as goal

pub returns : goal.returns
returns c = search (rules, leaf_tested)
