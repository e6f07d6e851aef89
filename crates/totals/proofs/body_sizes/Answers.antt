-- `totals::body_sizes` meets its contract, one law for each way through it.
use borrow.Author.Rules.{rules}
use Rattle.totals.proofs.Sizing.{size_fits, sizing_start, sizing_turn}
use Rattle.totals.proofs.body_sizes.Goals as goal

pub loop-j-init : goal.loop-j-init
loop-j-init c = search (rules, sizing_start)

pub overflow_cast-sizes : goal.overflow_cast-sizes
overflow_cast-sizes c = search (rules, size_fits)

pub loop-j-preserved : goal.loop-j-preserved
loop-j-preserved c = search (rules, sizing_turn)
