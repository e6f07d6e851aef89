use Rattle.components.proofs.Naming.{grouping_start, grouping_turn, name_low}
use borrow.Author.Rules.{rules}
use Rattle.components.proofs.store_sets.Goals as goal

pub loop-a-init : goal.loop-a-init
loop-a-init c = search (rules, grouping_start)

pub loop-a-preserved : goal.loop-a-preserved
loop-a-preserved c = search (rules, grouping_turn, name_low)
