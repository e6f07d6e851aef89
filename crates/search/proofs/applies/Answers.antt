-- `search::applies` meets its contract, one law for each way through it.
use borrow.Author.Rules.{rules}
use Rattle.search.proofs.Firing.{applies_sure, applies_not_sure, applies_possible, applies_not_possible}
use Rattle.search.proofs.applies.Goals as goal

pub returns-then-subset : goal.returns-then-subset
returns-then-subset c = search (rules, applies_sure)

pub returns-else-subset : goal.returns-else-subset
returns-else-subset c = search (rules, applies_not_sure)

pub returns-then-intersection-eq0 : goal.returns-then-intersection-eq0
returns-then-intersection-eq0 c = search (rules, applies_possible)

pub returns-else-intersection-eq0 : goal.returns-else-intersection-eq0
returns-else-intersection-eq0 c = search (rules, applies_not_possible)
