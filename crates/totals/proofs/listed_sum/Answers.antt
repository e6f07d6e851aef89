-- `totals::listed_sum` meets its contract, one law for each way through it.
use borrow.Author.Rules.{rules}
use Rattle.totals.proofs.Sizing.{summing_turn, summing_end}
use Rattle.totals.proofs.listed_sum.Goals as goal

pub loop-i-preserved : goal.loop-i-preserved
loop-i-preserved c = search (rules, summing_turn)

pub returns : goal.returns
returns c = search (rules, summing_end)
