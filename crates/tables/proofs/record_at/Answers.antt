-- `tables::record_at` meets its contract, one law for each way through it.
use borrow.Author.Rules.{rules}
use Rattle.tables.specs.inner.Rows.{row_at}
use Rattle.tables.proofs.record_at.Goals as goal

pub returns : goal.returns
unfolding row_at
returns c = search rules
