-- `lparse_sizes::lparse_length` meets its contract, one law for each way through it.
use borrow.Author.Rules.{rules}
use Rattle.lparse_sizes.proofs.Lengths.{whole_length}
use Rattle.lparse_sizes.proofs.lparse_length.Goals as goal

pub returns : goal.returns
returns c = search (rules, whole_length)
