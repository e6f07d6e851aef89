-- `lparse_lines::put_record` meets its contract, one law for each way through it.
use borrow.Author.Rules.{rules}
use Rattle.writer.proofs.Writing.{wrote_append, room_front, room_behind}
use Rattle.lparse_lines.specs.inner.Lines.{record_text}
use Rattle.lparse_lines.proofs.put_record.Goals as goal

pub put_head-a-requires : goal.put_head-a-requires
unfolding record_text
put_head-a-requires c = search (rules, room_front)

pub put_body-requires : goal.put_body-requires
unfolding record_text
put_body-requires c = search (rules, room_behind)

pub returns : goal.returns
unfolding record_text
returns c = search (rules, wrote_append)
