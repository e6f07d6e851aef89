-- `translation::store_rules` meets its contract, one law for each kind.
use borrow.Author.Rules.{rules}
use Rattle.translation.proofs.Appending.{rule_room, rule_stored, choice_room, choice_second, choice_stored, none_stored}
use Rattle.translation.proofs.store_rules.Goals as goal

pub store-requires : goal.store-requires
store-requires c = search (rules, rule_room)

pub returns-in-0 : goal.returns-in-0
returns-in-0 c = search (rules, rule_stored)

pub store-second-requires : goal.store-second-requires
store-second-requires c = search (rules, choice_room)

pub store-requires-in-2 : goal.store-requires-in-2
store-requires-in-2 c = search (rules, choice_second)

pub returns-in-2 : goal.returns-in-2
returns-in-2 c = search (rules, choice_stored)

pub returns-in_default : goal.returns-in_default
returns-in_default c = search (rules, none_stored)
