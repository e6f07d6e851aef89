-- `copy_clauses::put_rules` meets its contract, one law for each way through it.
use borrow.Author.Rules.{rules}
use Rattle.copy_clauses.proofs.Rules.{rules_variable, rules_room, rules_turn, rules_end}
use Rattle.copy_clauses.proofs.put_rules.Goals as goal

pub put_rule-next-requires : goal.put_rule-next-requires
put_rule-next-requires c = (search rules, search rules, search rules, search (rules, rules_variable), search (rules, rules_room))

pub loop-i-preserved : goal.loop-i-preserved
loop-i-preserved c = search (rules, rules_turn)

pub returns : goal.returns
returns c = search (rules, rules_end)
