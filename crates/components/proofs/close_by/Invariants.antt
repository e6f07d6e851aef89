use Rattle.components.proofs.Closing.{Closing}
use Rattle.components.proofs.close_by.Given as goal

abbrev pub invariant-loop-x : goal.invariant-loop-x
invariant-loop-x l = Closing l.k l.n l.fn.rows l.row l.x-index l.x-items
