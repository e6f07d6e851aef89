use Rattle.components.proofs.Closing.{ClosureRounds}
use Rattle.components.proofs.close.Given as goal

abbrev pub invariant-loop-k : goal.invariant-loop-k
invariant-loop-k l = ClosureRounds l.n l.initial.rows l.k l.rows
