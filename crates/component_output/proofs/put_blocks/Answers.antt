use borrow.Author.Rules.{rules}
use Rattle.component_output.proofs.Loops.{blocks_room, blocks_wrote}
use Rattle.writer.proofs.Loops.{range_turn}
use Rattle.component_output.proofs.put_blocks.Goals as goal

pub put_block-next-requires : goal.put_block-next-requires
put_block-next-requires c = search (rules, blocks_room)

pub loop-x-preserved : goal.loop-x-preserved
loop-x-preserved c = search (rules, range_turn)

pub returns : goal.returns
returns c = search (rules, blocks_wrote)
