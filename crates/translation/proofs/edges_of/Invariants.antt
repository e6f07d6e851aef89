-- `translation::edges_of` meets its contract, one law for each way through it.
use Rattle.translation.specs.inner.Records.{held}
use Rattle.translation.proofs.Linking.{Linking}
use Rattle.translation.proofs.edges_of.Given as goal

abbrev pub invariant-loop-j : goal.invariant-loop-j
invariant-loop-j l = Linking l.n (held l.m l.records) l.j l.rows l.fresh
