use Rattle.sheet.proofs.Sequences.{Fitting}
use Rattle.sheet.proofs.entries_fit.Given as goal

abbrev pub invariant-loop-a : goal.invariant-loop-a
invariant-loop-a l = Fitting l.n l.entries l.a-index
