-- `chain_rows::next_with` meets its contract, one law for each way through it.
use borrow.Author.Rules.{rules}
use Rattle.chain_rows.proofs.Rows.{next_is}
use Rattle.chain_rows.proofs.next_with.Goals as goal

pub returns : goal.returns
returns c = search (rules, next_is)
