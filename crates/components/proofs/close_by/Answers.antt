use borrow.Author.Rules.{rules}
use Rattle.components.proofs.Closing.{closing_turn, closing_end}
use native.Mathlib.Omega.{arith}
use Rattle.components.proofs.close_by.Goals as goal

pub loop-x-preserved : goal.loop-x-preserved
loop-x-preserved c = search (rules, closing_turn)

pub returns : goal.returns
returns c = closing_end _ _ _ _ c.loop-x.x-index _ c.loop-x.invariant (omega arith) (omega arith)
