-- `rulesheet::rulesheet_count` meets its contract: its answer is stored.
use borrow.Author.Rules.{rules}
use Rattle.interface.proofs.Returning.{returned}
use Rattle.rulesheet.proofs.rulesheet_count.Goals as goal

pub returns : goal.returns
returns c = search (rules, returned, rw c.service.ensures at c.count.ensures)
