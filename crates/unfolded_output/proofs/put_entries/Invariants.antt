-- `unfolded_output::put_entries` meets its contract, one law for each way through it.
use Rattle.unfolded_output.proofs.Whole.{EntriesLeft}
use Rattle.unfolded_output.proofs.put_entries.Given as goal

abbrev pub invariant-loop-j : goal.invariant-loop-j
invariant-loop-j l = EntriesLeft l.u.records.now l.u.program.now l.lasts l.initial.out l.at l.from l.to l.out l.next l.j
