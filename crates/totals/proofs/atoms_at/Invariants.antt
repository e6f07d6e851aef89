-- `totals::atoms_at` meets its contract, one law for each way through it.
use Rattle.totals.proofs.Sizing.{Adding}
use Rattle.totals.proofs.atoms_at.Given as goal

abbrev pub invariant-loop-j : goal.invariant-loop-j
invariant-loop-j l = Adding l.u.records.now l.u.program.now l.from l.to l.atoms l.j
