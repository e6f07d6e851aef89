-- `copies::last_copies` meets its contract, one law for each way through it.
use borrow.Author.Rules.{rules}
use Rattle.unfolding.specs.Unfolded.{last}
use Rattle.copies.proofs.last_copies.Goals as goal

pub returns : goal.returns
unfolding last
returns c = record { long = c.from_fn.ensures.items.long; is = λ b l. let h = (c.from_fn.ensures.items.at b 0 l).2 in search rules }
