use Rattle.chains.proofs.Components.{set_alone}
use borrow.Author.Rules.{rules}
use Rattle.chains.proofs.component_found.Goals as goal

pub returns-then-size-le1 : goal.returns-then-size-le1
returns-then-size-le1 c = search (rules, set_alone)
