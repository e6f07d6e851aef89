-- `text::put_text` meets its contract: the copy is the text, written.
use borrow.Author.Rules.{rules}
use Rattle.text.proofs.Loops.{copied_wrote}
use Rattle.text.proofs.put_text.Goals as goal

pub returns : goal.returns
returns c = search (rules, copied_wrote)
