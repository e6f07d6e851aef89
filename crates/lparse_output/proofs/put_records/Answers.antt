-- `lparse_output::put_records` meets its contract, one law for each way through it.
use borrow.Author.Rules.{rules}
use Rattle.lparse_output.proofs.Parts.{records_room, records_turn, records_end}
use Rattle.lparse_output.proofs.put_records.Goals as goal

pub put_record-next-requires : goal.put_record-next-requires
put_record-next-requires c = search (rules, records_room)

pub loop-j-preserved : goal.loop-j-preserved
loop-j-preserved c = search (rules, records_turn)

pub returns : goal.returns
returns c = search (rules, records_end)
