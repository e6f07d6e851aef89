use Rattle.missing_places.proofs.Rows.{Below}
use Rattle.missing_places.proofs.lacking.Given as goal

abbrev pub invariant-loop-set : goal.invariant-loop-set
invariant-loop-set l = Below l.table l.unused l.m l.set l.places
