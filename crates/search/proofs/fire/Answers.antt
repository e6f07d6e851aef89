-- `search::fire` meets its contract, one law for each way through it.
use borrow.Author.Rules.{rules}
use Rattle.search.proofs.Firing.{fire_adds, fire_lacks, fire_idle}
use Rattle.search.proofs.fire.Goals.{else-b-via-then-b+else-subset, else-b-via-else-b}
use Rattle.search.proofs.fire.Goals as goal

pub returns-then-subset : goal.returns-then-subset
returns-then-subset c = search (rules, fire_adds)

pub returns : goal.returns
returns c = elim c.else-b.branch [ else-b-via-then-b+else-subset w ↦ search (rules, fire_lacks) | else-b-via-else-b w ↦ search (rules, fire_idle) ]
