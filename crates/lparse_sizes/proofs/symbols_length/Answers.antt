-- `lparse_sizes::symbols_length` meets its contract, one law for each way through it.
use borrow.Author.Rules.{rules}
use Rattle.lparse_sizes.proofs.Lengths.{add_symbols_turn, add_symbols_end}
use Rattle.lparse_sizes.proofs.symbols_length.Goals as goal

pub loop-a-preserved : goal.loop-a-preserved
loop-a-preserved c = search (rules, add_symbols_turn)

pub returns : goal.returns
returns c = search (rules, add_symbols_end)
