-- `clause_output::put_backs` meets its contract, one law for each way through it.
use Rattle.clause_output.proofs.Backs.{BacksLeft}
use Rattle.clause_output.proofs.put_backs.Given as goal

abbrev pub invariant-loop-j : goal.invariant-loop-j
invariant-loop-j l = BacksLeft l.u.records.now l.u.program.now l.lasts l.initial.out l.at l.from l.to l.out l.next l.j
