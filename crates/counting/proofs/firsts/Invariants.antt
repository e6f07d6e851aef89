-- `counting::firsts` meets its contract, one law for each way through it.
use Rattle.counting.proofs.Returning.{Meeting}
use Rattle.counting.proofs.firsts.Given as goal

abbrev pub invariant-loop-j : goal.invariant-loop-j
invariant-loop-j l = Meeting l.records l.seen l.j l.at
