use borrow.Author.Rules.{rules}
use Rattle.component_output.proofs.Loops.{block_room, block_start, block_next, block_end}
use Rattle.writer.proofs.Writing.{left_start, left_turn, left_end}
use Rattle.component_output.proofs.put_block.Goals as goal

pub loop-init : goal.loop-init
loop-init c = search (rules, left_start, block_start)

pub put_set-next-requires : goal.put_set-next-requires
put_set-next-requires c = search (rules, block_room)

pub loop-preserved : goal.loop-preserved
loop-preserved c = search (rules, left_turn, block_next)

pub returns : goal.returns
returns c = search (rules, left_end, block_end)
