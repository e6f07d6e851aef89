-- `chain_rows::step` meets its contract, one law for each way through it.
use Prim.Native.Nat.{◌-◌}
use Rattle.chain_rows.proofs.Rows.{Stepping}
use Rattle.chain_rows.proofs.step.Given as goal

abbrev pub invariant-loop-set : goal.invariant-loop-set
invariant-loop-set l = Stepping l.initial.table l.i l.after l.set l.table

abbrev pub decreases-loop-set : goal.decreases-loop-set
decreases-loop-set l = l.size - l.set
