-- `components::largest` meets its contract, one law for each way through it.
use borrow.Author.Rules.{rules}
use Rattle.components.proofs.Naming.{growing_start, growing_turn, growing_end}
use Rattle.components.proofs.largest.Goals as goal

pub loop-x-init : goal.loop-x-init
loop-x-init c = search (rules, growing_start)

pub loop-x-preserved : goal.loop-x-preserved
loop-x-preserved c = search (rules, growing_turn)

pub returns : goal.returns
returns c = search (rules, growing_end)
