-- `sheet_check::check_graph` meets its contract, one law for each way through it.
use borrow.Author.Rules.{rules}
use Rattle.sheet_check.proofs.Graphs.{graph_checked}
use Rattle.sheet_check.proofs.check_graph.Goals as goal

pub returns : goal.returns
returns c = search (rules, graph_checked)
