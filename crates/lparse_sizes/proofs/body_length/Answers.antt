-- `lparse_sizes::body_length` meets its contract, one law for each way through it.
use borrow.Author.Rules.{rules}
use Rattle.lparse_lines.proofs.Lines.{size_small, literals_low}
use Rattle.lparse_sizes.proofs.Lengths.{body_length}
use Rattle.lparse_sizes.proofs.body_length.Goals as goal

pub small_length-requires : goal.small_length-requires
small_length-requires c = search (rules, literals_low)

pub small_length-requires-2 : goal.small_length-requires-2
small_length-requires-2 c = search (rules, size_small)

pub returns : goal.returns
returns c = search (rules, body_length)
