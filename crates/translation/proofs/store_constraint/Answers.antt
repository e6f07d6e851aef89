-- `translation::store_constraint` meets its contract, one law for each way through it.
use borrow.Author.Rules.{rules}
use Rattle.translation.proofs.Appending.{constraint_room, constraint_stored, no_constraint}
use Rattle.translation.proofs.store_constraint.Goals as goal

pub store-requires : goal.store-requires
store-requires c = search (rules, constraint_room)

pub returns-then-r-eq1 : goal.returns-then-r-eq1
returns-then-r-eq1 c = search (rules, constraint_stored)

pub returns : goal.returns
returns c = search (rules, no_constraint)
