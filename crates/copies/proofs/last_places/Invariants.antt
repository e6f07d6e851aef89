-- `copies::last_places` meets its contract, one law for each way through it.
use Rattle.copies.proofs.Placing.{Placing}
use Rattle.copies.proofs.last_places.Given as goal

abbrev pub invariant-loop-i : goal.invariant-loop-i
invariant-loop-i l = Placing l.q l.i l.places
