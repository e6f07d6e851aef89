-- `lparse::answer` meets its contract, one law for each way through it.
use borrow.Author.Rules.{rules}
use Rattle.lparse.proofs.Texts.{answer_refused, answer_written}
use Rattle.lparse.proofs.answer.Goals as goal

pub returns-in-Err : goal.returns-in-Err
returns-in-Err c = search (rules, answer_refused, rw c.service.ensures at c.lparse.ensures)

pub returns-in-Ok : goal.returns-in-Ok
returns-in-Ok c = search (rules, answer_written, rw c.service.ensures at c.lparse.ensures)
