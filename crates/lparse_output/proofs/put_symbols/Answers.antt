-- `lparse_output::put_symbols` meets its contract, one law for each way through it.
use borrow.Author.Rules.{rules}
use Rattle.writer.proofs.Loops.{range_turn}
use Rattle.lparse_output.proofs.Parts.{symbols_room, symbols_end}
use Rattle.lparse_output.proofs.put_symbols.Goals as goal

pub put_symbol-next-requires : goal.put_symbol-next-requires
put_symbol-next-requires c = (search rules, search (rules, symbols_room))

pub loop-a-preserved : goal.loop-a-preserved
loop-a-preserved c = search (rules, range_turn)

pub returns : goal.returns
returns c = search (rules, symbols_end)
