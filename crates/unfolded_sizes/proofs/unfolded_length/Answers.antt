-- `unfolded_sizes::unfolded_length` meets its contract, one law for each way through it.
use borrow.Author.Rules.{rules}
use Rattle.unfolded_sizes.proofs.Sizes.{length_is}
use Rattle.unfolded_sizes.proofs.unfolded_length.Goals as goal

pub returns : goal.returns
returns c = search (rules, length_is)
