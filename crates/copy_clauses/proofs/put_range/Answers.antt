-- `copy_clauses::put_range` meets its contract, one law for each way through it.
use borrow.Author.Rules.{rules}
use Rattle.copy_clauses.proofs.Rules.{numbers_room, numbers_turn, numbers_end}
use Rattle.copy_clauses.proofs.put_range.Goals as goal

pub put_plain-next-requires : goal.put_plain-next-requires
put_plain-next-requires c = (search (rules, numbers_room), search rules)

pub loop-v-preserved : goal.loop-v-preserved
loop-v-preserved c = search (rules, numbers_turn)

pub returns : goal.returns
returns c = search (rules, numbers_end)
