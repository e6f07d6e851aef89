-- `lparse_lines::put_head` meets its contract, one law for each way through it.
use borrow.Author.Rules.{rules}
use Rattle.lparse_lines.proofs.Lines.{constraint_fits, choice_fits, rule_fits, choice_behind, rule_behind, wrote_constraint, wrote_choice, wrote_rule}
use Rattle.lparse_lines.proofs.put_head.Goals as goal

pub put_text-requires : goal.put_text-requires
put_text-requires c = search (rules, constraint_fits)

pub returns-in-1 : goal.returns-in-1
returns-in-1 c = search (rules, wrote_constraint)

pub put_text-a-requires : goal.put_text-a-requires
put_text-a-requires c = search (rules, choice_fits)

pub put_field-requires : goal.put_field-requires
put_field-requires c = (search rules, search (rules, choice_behind))

pub returns-in-2 : goal.returns-in-2
returns-in-2 c = search (rules, wrote_choice)

pub put_text-a-requires-in_default : goal.put_text-a-requires-in_default
put_text-a-requires-in_default c = search (rules, rule_fits)

pub put_field-requires-in_default : goal.put_field-requires-in_default
put_field-requires-in_default c = (search rules, search (rules, rule_behind))

pub returns-in_default : goal.returns-in_default
returns-in_default c = search (rules, wrote_rule)
