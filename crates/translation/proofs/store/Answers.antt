-- `translation::store` meets its contract, one law for each way through it.
use borrow.Author.Rules.{rules}
use Rattle.translation.proofs.Appending.{appended_one}
use Rattle.translation.proofs.store.Goals as goal

pub returns : goal.returns
returns c = search (rules, appended_one)
