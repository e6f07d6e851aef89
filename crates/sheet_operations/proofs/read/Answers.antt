-- `sheet_operations::read` meets its contract, one law for each way through it.
use Rattle.sheet_operations.proofs.Reading.{read_refused, read_header}
use borrow.Author.Rules.{rules}
use Rattle.sheet_operations.proofs.read.Goals as goal

pub returns-in_err-a : goal.returns-in_err-a
returns-in_err-a c = search (rules, read_refused)

pub returns : goal.returns
returns c = search (rules, read_header, c.in_ok-a.ensures)
