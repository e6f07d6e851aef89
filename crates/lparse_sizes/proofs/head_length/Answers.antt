-- `lparse_sizes::head_length` meets its contract, one law for each way through it.
use borrow.Author.Rules.{rules}
use Rattle.lparse_sizes.proofs.Lengths.{constraint_length, choice_length, rule_length}
use Rattle.lparse_sizes.proofs.head_length.Goals as goal

pub returns-in-1 : goal.returns-in-1
returns-in-1 c = search (rules, constraint_length)

pub returns-in-2 : goal.returns-in-2
returns-in-2 c = search (rules, choice_length)

pub returns-in_default : goal.returns-in_default
returns-in_default c = search (rules, rule_length)
