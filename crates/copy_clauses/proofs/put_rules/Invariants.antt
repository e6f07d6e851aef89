-- `copy_clauses::put_rules` meets its contract, one law for each way through it.
use Rattle.copy_clauses.proofs.Rules.{RulesLeft}
use Rattle.copy_clauses.proofs.put_rules.Given as goal

abbrev pub invariant-loop-i : goal.invariant-loop-i
invariant-loop-i l = RulesLeft l.u.records.now l.u.program.now l.vars l.var l.initial.rule l.listed l.initial.out l.initial.next l.out l.next l.rule l.i-index
