-- `tables::entry_at` meets its contract, one law for each way through it.
use borrow.Author.Rules.{rules}
use Rattle.tables.specs.inner.Rows.{entry_at}
use Rattle.tables.proofs.entry_at.Goals as goal

pub returns : goal.returns
unfolding entry_at
returns c = search rules
