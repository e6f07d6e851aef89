use Rattle.components.proofs.Naming.{Grouping}
use Rattle.components.proofs.store_sets.Given as goal

abbrev pub invariant-loop-a : goal.invariant-loop-a
invariant-loop-a l = Grouping l.names l.a l.sets
