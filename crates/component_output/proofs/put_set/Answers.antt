use borrow.Author.Rules.{rules}
use Rattle.component_output.proofs.Loops.{atoms_room, atoms_end}
use Rattle.writer.proofs.Loops.{set_turn}
use Rattle.component_output.proofs.put_set.Goals as goal

pub put-next-requires : goal.put-next-requires
put-next-requires c = search (rules, atoms_room)

pub loop-left-preserved : goal.loop-left-preserved
loop-left-preserved c = search (rules, set_turn)

pub returns : goal.returns
returns c = search (rules, atoms_end)
