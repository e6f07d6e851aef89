use Rattle.lists.proofs.Members.{below_more}
use Rattle.chains.proofs.Components.{component_roomy, entries_gathered}
use borrow.Author.Rules.{rules}
use Rattle.chains.proofs.passes.Goals as goal

pub component_found-requires : goal.component_found-requires
component_found-requires c = search (rules, component_roomy, below_more, entries_gathered)
