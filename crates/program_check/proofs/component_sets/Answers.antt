-- `program_check::component_sets` meets its contract, one law for each way through it.
use borrow.Author.Rules.{rules}
use Rattle.components.proofs.Naming.{name_low, name_scale}
use Rattle.program_check.proofs.Components.{filling_start, filling_turn, filling_end}
use Rattle.program_check.proofs.component_sets.Goals as goal

pub loop-a-init : goal.loop-a-init
loop-a-init c = search (rules, filling_start)

pub offset_bounds-sets-c : goal.offset_bounds-sets-c
offset_bounds-sets-c c = search (rules, name_scale)

pub bounds-sets-c : goal.bounds-sets-c
bounds-sets-c c = search (rules, name_low)

pub loop-a-preserved : goal.loop-a-preserved
loop-a-preserved c = search (rules, filling_turn)

pub returns : goal.returns
returns c = search (rules, filling_end)
