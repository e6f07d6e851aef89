-- `components::row_through` meets its contract, one law for each way through it.
use borrow.Author.Rules.{rules}
use Rattle.components.proofs.Closing.{row_union}
use Rattle.components.proofs.row_through.Goals as goal

pub returns-then-has : goal.returns-then-has
returns-then-has c = search (rules, row_union)
