-- `chains::chains_found` meets its contract, one law for each way through it.
use borrow.Author.Rules.{rules}
use Rattle.chains.proofs.Testing.{filled_tested}
use Rattle.chains.proofs.chains_found.Goals as goal

pub returns : goal.returns
returns c = search (rules, filled_tested)
