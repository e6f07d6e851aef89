use Rattle.components.proofs.Closing.{rounds_start, rounds_turn, rounds_end}
use borrow.Author.Rules.{rules}
use Rattle.components.proofs.close.Goals as goal

pub loop-k-init : goal.loop-k-init
loop-k-init c = search (rules, rounds_start)

pub loop-k-preserved : goal.loop-k-preserved
loop-k-preserved c = search (rules, rounds_turn)

pub returns : goal.returns
returns c = search (rules, rounds_end)
