use Rattle.components.proofs.Naming.{Naming}
use Rattle.components.proofs.store_names.Given as goal

abbrev pub invariant-loop-a : goal.invariant-loop-a
invariant-loop-a l = Naming l.n l.rows l.a l.names
