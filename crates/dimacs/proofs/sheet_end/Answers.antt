-- `dimacs::sheet_end` meets its contract, one law for each way through it.
use borrow.Author.Rules.{rules}
use Rattle.dimacs.proofs.Split.{split_few, split_field}
use Rattle.dimacs.proofs.sheet_end.Goals as goal

pub returns-then-input-lt3 : goal.returns-then-input-lt3
returns-then-input-lt3 c = search (rules, split_few)

pub returns : goal.returns
returns c = search (rules, split_field)
