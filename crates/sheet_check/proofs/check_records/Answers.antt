-- `sheet_check::check_records` meets its contract, one law for each way through it.
use borrow.Author.Rules.{rules}
use Rattle.sheet_check.proofs.Sheets.{checked_bytes, checked_expands, checked_graph, checked_fine}
use Rattle.sheet_check.proofs.check_records.Goals as goal

pub returns-in_err-numbers : goal.returns-in_err-numbers
returns-in_err-numbers c = search (rules, checked_bytes)

pub check_graph-requires : goal.check_graph-requires
check_graph-requires c = (search (rules, checked_expands, c.in_ok-numbers.ensures), search rules)

pub returns-in_err-check_graph : goal.returns-in_err-check_graph
returns-in_err-check_graph c = search (rules, checked_graph)

pub returns : goal.returns
returns c = search (rules, checked_fine, c.in_ok-numbers.ensures, c.in_ok-check_graph.was)
