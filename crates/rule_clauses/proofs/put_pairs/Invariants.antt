-- `rule_clauses::put_pairs` meets its contract, one law for each way through it.
use Rattle.rule_clauses.proofs.Signs.{PairsLeft}
use Rattle.rule_clauses.proofs.put_pairs.Given as goal

abbrev pub invariant-loop-left : goal.invariant-loop-left
invariant-loop-left l = PairsLeft l.vars l.plain l.d l.initial.out l.at l.x l.out l.next l.left

abbrev pub decreases-loop-left : goal.decreases-loop-left
decreases-loop-left l = l.left
