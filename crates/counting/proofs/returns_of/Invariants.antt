-- `counting::returns_of` meets its contract, one law for each way through it.
use Rattle.counting.proofs.Returning.{Filling}
use Rattle.counting.proofs.returns_of.Given as goal

abbrev pub invariant-loop-j : goal.invariant-loop-j
invariant-loop-j l = Filling l.records l.at l.k l.j
