-- `rule_clauses::put_rule` meets its contract, one law for each way through it.
use Rattle.rule_clauses.proofs.Rule.{rule_first, rule_second, rule_third, rule_fourth, rule_wrote}
use borrow.Author.Rules.{rules}
use Rattle.rule_clauses.proofs.put_rule.Goals as goal

pub put_two-first-requires : goal.put_two-first-requires
put_two-first-requires c = search (rules, rule_first)

pub put_body_pairs-second-requires : goal.put_body_pairs-second-requires
put_body_pairs-second-requires c = search (rules, rule_second)

pub put_plain-third-requires : goal.put_plain-third-requires
put_plain-third-requires c = search (rules, rule_third)

pub put_back-requires : goal.put_back-requires
put_back-requires c =
    (c.requires.0, c.requires.1, rule_fourth _ _ _ _ _ _ c.requires.4 _ _ c.put_two-first.ensures _ _ c.put_body_pairs-second.ensures _ _ c.put_plain-third.ensures)

pub returns : goal.returns
returns c = search (rules, rule_wrote)
