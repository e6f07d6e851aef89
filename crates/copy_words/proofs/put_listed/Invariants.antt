-- `copy_words::put_listed` meets its contract, one law for each way through it.
use Rattle.copy_words.proofs.Copy.{ListedLeft}
use Rattle.copy_words.proofs.put_listed.Given as goal

abbrev pub invariant-loop-i : goal.invariant-loop-i
invariant-loop-i l = ListedLeft l.u.records.now l.u.program.now l.vars l.initial.out l.at l.listed l.out l.next l.i-index
