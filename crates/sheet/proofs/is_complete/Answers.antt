-- `sheet::is_complete` meets its contract, one law for each way through it.
use borrow.Author.Rules.{rules}
use Rattle.sheet.proofs.Records.{complete_gone, complete_small, complete_cut, complete_split}
use Rattle.sheet.proofs.is_complete.Goals as goal

pub returns-then-s-at : goal.returns-then-s-at
returns-then-s-at c = search (rules, complete_gone)

pub returns-then-k-lt3 : goal.returns-then-k-lt3
returns-then-k-lt3 c = search (rules, complete_small)

pub returns-then-s-at-2 : goal.returns-then-s-at-2
returns-then-s-at-2 c = search (rules, complete_cut)

pub returns : goal.returns
returns c = search (rules, complete_split)
