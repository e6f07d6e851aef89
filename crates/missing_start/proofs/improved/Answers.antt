use Rattle.missing_start.proofs.Sofar.{improved_found}
use borrow.Author.Rules.{rules}
use Rattle.missing_start.proofs.improved.Goals as goal

pub returns-then-subset : goal.returns-then-subset
returns-then-subset c = search (rules, improved_found)
