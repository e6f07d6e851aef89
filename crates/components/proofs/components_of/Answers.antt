-- `components::components_of` meets its contract, one law for each way through it.
use Rattle.components.proofs.Graphs.{graph_made}
use borrow.Author.Rules.{rules}
use Rattle.components.proofs.components_of.Goals as goal

pub returns : goal.returns
returns c = search (rules, graph_made)
