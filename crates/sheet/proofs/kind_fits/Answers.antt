-- `sheet::kind_fits` meets its contract, one law for each way through it.
use borrow.Author.Rules.{rules}
use Rattle.sheet.proofs.Lists.{kind_rule, kind_constraint, kind_choice, kind_other}
use Rattle.sheet.proofs.kind_fits.Goals as goal

pub returns-in-0 : goal.returns-in-0
returns-in-0 c = search (rules, kind_rule)

pub returns-in-1 : goal.returns-in-1
returns-in-1 c = search (rules, kind_constraint)

pub returns-in-2 : goal.returns-in-2
returns-in-2 c = search (rules, kind_choice)

pub returns-in_default : goal.returns-in_default
returns-in_default c = search (rules, kind_other)
