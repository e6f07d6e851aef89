-- `counting::count` meets its contract, one law for each way through it.
use borrow.Author.Rules.{rules}
use Rattle.counting.proofs.Deciding.{size_few, found_many, found_exact}
use Rattle.counting.proofs.count.Goals as goal

pub returns-then-size-gt16 : goal.returns-then-size-gt16
returns-then-size-gt16 c = search (rules, found_many)

pub count_models-requires : goal.count_models-requires
count_models-requires c = search (rules, size_few)

pub returns : goal.returns
returns c = search (rules, found_exact)
