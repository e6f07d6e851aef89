-- `totals::body_sizes` meets its contract, one law for each way through it.
use Rattle.totals.proofs.Sizing.{Sizing}
use Rattle.totals.proofs.body_sizes.Given as goal

abbrev pub invariant-loop-j : goal.invariant-loop-j
invariant-loop-j l = Sizing l.u.records.now l.u.program.now l.u.size.rules l.sizes l.j
