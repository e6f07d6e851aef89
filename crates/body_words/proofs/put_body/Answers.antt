-- `body_words::put_body` meets its contract, one law for each way through it.
use borrow.Author.Rules.{rules}
use Rattle.body_words.proofs.Body.{body_wrote}
use Rattle.body_words.proofs.put_body.Goals as goal

pub returns : goal.returns
returns c = search (rules, body_wrote)
