use Rattle.chain_rows.proofs.Places.{Following}
use Rattle.chain_rows.proofs.followers.Given as goal

abbrev pub invariant-loop-p : goal.invariant-loop-p
invariant-loop-p l = Following l.rows l.atoms l.x l.p l.set
