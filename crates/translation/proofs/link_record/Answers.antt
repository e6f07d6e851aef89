-- `translation::link_record` meets its contract, one law for each kind.
use borrow.Author.Rules.{rules}
use Rattle.translation.proofs.Linking.{record_rule, record_choice, record_other}
use Rattle.translation.proofs.link_record.Goals as goal

pub returns-in-0 : goal.returns-in-0
returns-in-0 c = search (rules, record_rule)

pub returns-in-2 : goal.returns-in-2
returns-in-2 c = search (rules, record_choice)

pub returns-in_default : goal.returns-in_default
returns-in_default c = search (rules, record_other)
