use borrow.Author.Rules.{rules}
use Rattle.component_output.proofs.Loops.{adding_start, adding_turn, adding_end}
use Rattle.component_output.proofs.blocks_length.Goals as goal

pub loop-x-init : goal.loop-x-init
loop-x-init c = search (rules, adding_start)

pub loop-x-preserved : goal.loop-x-preserved
loop-x-preserved c = search (rules, adding_turn)

pub returns : goal.returns
returns c = search (rules, adding_end)
