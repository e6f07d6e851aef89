-- `clause_sizes::numbers_of` meets its contract, one law for each way through it.
use borrow.Author.Rules.{rules}
use Rattle.clause_sizes.proofs.Sizes.{numbers_are}
use Rattle.clause_sizes.proofs.numbers_of.Goals as goal

pub returns : goal.returns
returns c = search (rules, numbers_are)
