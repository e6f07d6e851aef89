-- `sheet_check::check_sizes` meets its contract, one law for each way through it.
use borrow.Author.Rules.{rules}
use Rattle.sheet_check.proofs.Graphs.{sizes_large, sizes_many, sizes_wide, sizes_fine}
use Rattle.sheet_check.proofs.check_sizes.Goals as goal

pub returns-then-limits-largest : goal.returns-then-limits-largest
returns-then-limits-largest c = search (rules, sizes_large)

pub returns-then-limits-atoms : goal.returns-then-limits-atoms
returns-then-limits-atoms c = search (rules, sizes_many)

pub returns-then-limits-largest-2 : goal.returns-then-limits-largest-2
returns-then-limits-largest-2 c = search (rules, sizes_wide)

pub returns : goal.returns
returns c = search (rules, sizes_fine)
