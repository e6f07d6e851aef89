-- `lparse_lines::put_literals` meets its contract, one law for each way through it.
use borrow.Author.Rules.{rules}
use Rattle.writer.proofs.Writing.{wrote_append, room_front}
use Rattle.lparse_lines.proofs.Lines.{room_second, room_one}
use Rattle.lparse_lines.specs.inner.Lines.{literals_text}
use Rattle.lparse_lines.proofs.put_literals.Goals as goal

pub put_atoms-a-requires : goal.put_atoms-a-requires
unfolding literals_text
put_atoms-a-requires c = search (rules, room_front)

pub put_atoms-b-requires : goal.put_atoms-b-requires
unfolding literals_text
put_atoms-b-requires c = search (rules, room_second)

pub put-requires : goal.put-requires
unfolding literals_text
put-requires c = search (rules, room_one)

pub returns : goal.returns
unfolding literals_text
returns c = search (rules, wrote_append)
