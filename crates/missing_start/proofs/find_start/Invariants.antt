use lib.ListN.{drop}
use Rattle.missing_start.proofs.Sofar.{StartSofar}
use Rattle.missing_start.proofs.find_start.Given as goal

abbrev pub invariant-loop-x : goal.invariant-loop-x
invariant-loop-x l = StartSofar l.n l.rows l.sets (drop 3 l.q) l.x-index l.best
