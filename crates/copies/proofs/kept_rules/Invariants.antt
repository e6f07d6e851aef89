-- `copies::kept_rules` meets its contract, one law for each way through it.
use Rattle.copies.specs.inner.Given.{table_in}
use Rattle.copies.proofs.Keeping.{Keeping}
use Rattle.copies.proofs.kept_rules.Given as goal

abbrev pub invariant-loop-j : goal.invariant-loop-j
invariant-loop-j l = Keeping (table_in l.u) l.a l.component l.keeping l.j l.entries l.kept
