-- `copy_clauses::put_range` meets its contract, one law for each way through it.
use Rattle.copy_clauses.proofs.Rules.{NumbersLeft}
use Rattle.copy_clauses.proofs.put_range.Given as goal

abbrev pub invariant-loop-v : goal.invariant-loop-v
invariant-loop-v l = NumbersLeft l.initial.out l.at l.from l.to l.out l.next l.v
