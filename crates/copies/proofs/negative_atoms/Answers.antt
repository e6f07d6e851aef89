-- `copies::negative_atoms` meets its contract, one law for each way through it.
use borrow.Author.Rules.{rules}
use Rattle.copies.proofs.Keeping.{negative_fits, negative_number}
use Rattle.copies.proofs.negative_atoms.Goals as goal

pub overflow_add-result : goal.overflow_add-result
overflow_add-result c = search (rules, negative_fits)

pub returns : goal.returns
returns c = search (rules, negative_number)
