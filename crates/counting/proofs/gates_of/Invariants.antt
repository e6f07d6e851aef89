-- `counting::gates_of` meets its contract, one law for each way through it.
use Rattle.counting.proofs.Gating.{Gating}
use Rattle.counting.proofs.gates_of.Given as goal

abbrev pub invariant-loop-j : goal.invariant-loop-j
invariant-loop-j l = Gating l.records l.k l.j l.at
