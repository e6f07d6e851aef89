-- `tables::store_entry` meets its contract, one law for each way through it.
use borrow.Author.Rules.{rules}
use Rattle.tables.proofs.Rows.{entry_stored}
use Rattle.tables.proofs.store_entry.Goals as goal

pub returns : goal.returns
returns c = search (rules, entry_stored)
