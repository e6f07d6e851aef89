-- `body_words::put_each` meets its contract, one law for each way through it.
use borrow.Author.Rules.{rules}
use Rattle.body_words.proofs.Body.{vars_room, vars_turn, vars_end}
use Rattle.body_words.proofs.put_each.Goals as goal

pub put-next-requires : goal.put-next-requires
put-next-requires c = search (rules, vars_room)

pub loop-left-preserved : goal.loop-left-preserved
loop-left-preserved c = search (rules, vars_turn)

pub returns : goal.returns
returns c = search (rules, vars_end)
