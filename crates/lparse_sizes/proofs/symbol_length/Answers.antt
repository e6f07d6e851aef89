-- `lparse_sizes::symbol_length` meets its contract, one law for each way through it.
use borrow.Author.Rules.{rules}
use Rattle.lparse_sizes.proofs.Lengths.{symbol_length}
use Rattle.lparse_sizes.proofs.symbol_length.Goals as goal

pub returns : goal.returns
returns c = search (rules, symbol_length)
