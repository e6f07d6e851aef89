-- `copy_words::put_copy` meets its contract, one law for each way through it.
use borrow.Author.Rules.{rules}
use Rattle.copy_words.proofs.Copy.{copy_room, copy_wrote}
use Rattle.copy_words.proofs.put_copy.Goals as goal

pub put_listed-requires : goal.put_listed-requires
put_listed-requires c = search (rules, copy_room)

pub returns : goal.returns
returns c = search (rules, copy_wrote)
