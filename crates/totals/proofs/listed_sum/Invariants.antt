-- `totals::listed_sum` meets its contract, one law for each way through it.
use Rattle.totals.proofs.Sizing.{Summing}
use Rattle.totals.proofs.listed_sum.Given as goal

abbrev pub invariant-loop-i : goal.invariant-loop-i
invariant-loop-i l = Summing l.sizes l.listed l.sum l.i-index
