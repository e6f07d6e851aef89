-- `translation::link` meets its contract, one law for each way through it.
use borrow.Author.Rules.{rules}
use Rattle.translation.proofs.Linking.{linked}
use Rattle.translation.proofs.link.Goals as goal

pub returns : goal.returns
returns c = search (rules, linked)
