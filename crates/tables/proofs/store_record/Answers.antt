-- `tables::store_record` meets its contract, one law for each way through it.
use borrow.Author.Rules.{rules}
use Rattle.tables.proofs.Rows.{record_stored}
use Rattle.tables.proofs.store_record.Goals as goal

pub returns : goal.returns
returns c = search (rules, record_stored)
