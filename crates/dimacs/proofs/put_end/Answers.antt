-- `dimacs::put_end` meets its contract, one law for each way through it.
use borrow.Author.Rules.{rules}
use Rattle.dimacs.proofs.Words.{end_room, wrote_line, wrote_space}
use Rattle.dimacs.proofs.put_end.Goals as goal

pub put-requires : goal.put-requires
put-requires c = search (rules, end_room)

pub returns-then-v-eq0 : goal.returns-then-v-eq0
returns-then-v-eq0 c = search (rules, wrote_line)

pub put-requires-2 : goal.put-requires-2
put-requires-2 c = search (rules, end_room)

pub returns : goal.returns
returns c = search (rules, wrote_space)
