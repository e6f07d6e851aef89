-- `lparse_lines::put_atoms` meets its contract, one law for each way through it.
use borrow.Author.Rules.{rules}
use Rattle.writer.proofs.Loops.{set_turn}
use Rattle.lparse_lines.proofs.Lines.{atoms_room, atoms_end}
use Rattle.lparse_lines.proofs.put_atoms.Goals as goal

pub put_field-next-requires : goal.put_field-next-requires
put_field-next-requires c = (search rules, search (rules, atoms_room))

pub loop-left-preserved : goal.loop-left-preserved
loop-left-preserved c = search (rules, set_turn)

pub returns : goal.returns
returns c = search (rules, atoms_end)
