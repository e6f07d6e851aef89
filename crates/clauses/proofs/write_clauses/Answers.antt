-- `clauses::write_clauses` meets its contract, one law for each way through it.
use Rattle.clauses.proofs.Parts.{parts_promise}
use Rattle.clauses.proofs.write_clauses.Goals as goal

pub returns : goal.returns
returns c = parts_promise _ _ c.sheet_end-e.ensures _ _ _ (rw c.service.ensures at c.clauses.ensures)
