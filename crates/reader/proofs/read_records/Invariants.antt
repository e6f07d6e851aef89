use Rattle.reader.proofs.Tabling.{Tabling}
use Rattle.reader.proofs.read_records.Given as goal

abbrev pub invariant-loop-j : goal.invariant-loop-j
invariant-loop-j l = Tabling l.n l.m l.s l.j l.at l.records
