-- `totals::kept_totals` meets its contract, one law for each way through it.
use Prim.Native.Nat.{◌+◌}
use Rattle.copies.specs.inner.Given.{table_in}
use Rattle.totals.proofs.Totalling.{Totalling}
use Rattle.totals.proofs.kept_totals.Given as goal

abbrev pub invariant-loop-a : goal.invariant-loop-a
invariant-loop-a l = Totalling (table_in l.u) l.u.q.now (3 + l.a-index) l.keeping l.entries l.rules l.atoms
