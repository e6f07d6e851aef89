-- `search::body_holds` meets its contract, one law for each way through it.
use borrow.Author.Rules.{rules}
use Rattle.search.proofs.Constraints.{body_fits, body_lacks}
use Rattle.search.proofs.body_holds.Goals as goal

pub returns-then-subset : goal.returns-then-subset
returns-then-subset c = search (rules, body_fits)

pub returns-else-subset : goal.returns-else-subset
returns-else-subset c = search (rules, body_lacks)
