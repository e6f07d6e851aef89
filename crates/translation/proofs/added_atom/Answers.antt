-- `translation::added_atom` meets its contract, one law for each way through it.
use borrow.Author.Rules.{rules}
use Rattle.translation.proofs.Appending.{added_there, added_last}
use Rattle.translation.proofs.added_atom.Goals as goal

pub returns-then-has : goal.returns-then-has
returns-then-has c = search (rules, added_there)

pub returns : goal.returns
returns c = search (rules, added_last)
