-- `clause_output::put_copies` meets its contract, one law for each way through it.
use Rattle.copies.specs.inner.Given.{table_in}
use Rattle.clause_output.proofs.Whole.{ClausesWritten}
use Rattle.clause_output.proofs.put_copies.Given as goal

abbrev pub invariant-loop-i : goal.invariant-loop-i
invariant-loop-i l = ClausesWritten (table_in l.u) l.u.components.now l.u.q.now l.lasts l.initial.out l.i l.keeping l.entries l.latest l.highest l.out l.ends
