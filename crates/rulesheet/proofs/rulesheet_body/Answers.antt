-- `rulesheet::rulesheet_body` meets its contract: its answer is stored.
use borrow.Author.Rules.{rules}
use Rattle.interface.proofs.Returning.{body_returned}
use Rattle.rulesheet.proofs.rulesheet_body.Goals as goal

pub returns : goal.returns
returns c = search (rules, body_returned, rw c.service.ensures at c.find_body-place.ensures)
