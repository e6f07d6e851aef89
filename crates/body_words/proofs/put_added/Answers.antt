-- `body_words::put_added` meets its contract, one law for each way through it.
use borrow.Author.Rules.{rules}
use Rattle.body_words.proofs.Body.{added_none, added_room, added_one}
use Rattle.body_words.proofs.put_added.Goals as goal

pub returns-then-added-eq0 : goal.returns-then-added-eq0
returns-then-added-eq0 c = search (rules, added_none)

pub put-requires : goal.put-requires
put-requires c = search (rules, added_room)

pub returns : goal.returns
returns c = search (rules, added_one)
