-- `totals::totals_of` meets its contract, one law for each way through it.
use borrow.Author.Rules.{rules}
use Rattle.totals.proofs.Totalling.{totals_are}
use Rattle.totals.proofs.totals_of.Goals as goal

pub returns : goal.returns
returns c = search (rules, totals_are)
