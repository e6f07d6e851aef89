-- `body_words::put_eight` meets its contract, one law for each way through it.
use borrow.Author.Rules.{rules}
use Rattle.body_words.proofs.Body.{eight_wrote}
use Rattle.body_words.proofs.put_eight.Goals as goal

pub returns : goal.returns
returns c = search (rules, eight_wrote)
