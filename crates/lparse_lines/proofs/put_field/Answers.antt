-- `lparse_lines::put_field` meets its contract, one law for each way through it.
use borrow.Author.Rules.{rules}
use Rattle.lparse_format.specs.Text.{field_text}
use Rattle.writer.proofs.Writing.{wrote_append, room_behind}
use Rattle.lparse_lines.proofs.put_field.Goals as goal

pub put-a-requires : goal.put-a-requires
unfolding field_text
put-a-requires c = search rules

pub put_small-requires : goal.put_small-requires
unfolding field_text
put_small-requires c = search (rules, room_behind)

pub returns : goal.returns
unfolding field_text
returns c = search (rules, wrote_append)
