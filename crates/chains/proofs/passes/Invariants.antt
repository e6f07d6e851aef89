use lib.ListN.{drop}
use Rattle.chains.proofs.Components.{Asking}
use Rattle.chains.proofs.passes.Given as goal

abbrev pub invariant-loop-x : goal.invariant-loop-x
invariant-loop-x l = Asking l.n l.rows l.sets (drop 3 l.q) l.x-index
