-- `copy_words::put_listed` meets its contract, one law for each way through it.
use borrow.Author.Rules.{rules}
use Rattle.copy_words.proofs.Copy.{listed_room, listed_turn, listed_end}
use Rattle.copy_words.proofs.put_listed.Goals as goal

pub put_body-next-requires : goal.put_body-next-requires
put_body-next-requires c = search (rules, listed_room)

pub loop-i-preserved : goal.loop-i-preserved
loop-i-preserved c = search (rules, listed_turn)

pub returns : goal.returns
returns c = search (rules, listed_end)
