-- `lparse_sizes::records_length` meets its contract, one law for each way through it.
use borrow.Author.Rules.{rules}
use Rattle.lparse_sizes.proofs.Lengths.{add_records_turn, add_records_end}
use Rattle.lparse_sizes.proofs.records_length.Goals as goal

pub loop-j-preserved : goal.loop-j-preserved
loop-j-preserved c = search (rules, add_records_turn)

pub returns : goal.returns
returns c = search (rules, add_records_end)
