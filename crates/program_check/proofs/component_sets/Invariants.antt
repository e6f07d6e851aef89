-- `program_check::component_sets` meets its contract, one law for each way through it.
use Rattle.program_check.proofs.Components.{Filling}
use Rattle.program_check.proofs.component_sets.Given as goal

abbrev pub invariant-loop-a : goal.invariant-loop-a
invariant-loop-a l = Filling l.names l.sets l.a l.components
