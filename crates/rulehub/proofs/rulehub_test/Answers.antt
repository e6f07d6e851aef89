-- `rulehub::rulehub_test` meets its contract: its answer is stored.
use borrow.Author.Rules.{rules}
use Rattle.interface.proofs.Returning.{returned}
use Rattle.rulehub.proofs.rulehub_test.Goals as goal

pub returns : goal.returns
returns c = search (rules, returned, rw c.service.ensures at c.test.ensures)
