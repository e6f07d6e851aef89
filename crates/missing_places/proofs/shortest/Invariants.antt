use Rattle.missing_places.proofs.Rows.{NoneBelow}
use Rattle.missing_places.proofs.shortest.Given as goal

abbrev pub invariant-loop-m : goal.invariant-loop-m
invariant-loop-m l = NoneBelow l.table l.full l.m
