-- `chain_rows::step` meets its contract, one law for each way through it.
use native.Mathlib.Omega.{arith}
use Rattle.chain_rows.proofs.Rows.{stepping_start, stepping_turn, stepping_end}
use borrow.Author.Rules.{rules}
use Rattle.chain_rows.proofs.step.Goals as goal

pub loop-set-init : goal.loop-set-init
loop-set-init c = search (rules, stepping_start)

pub loop-set-preserved : goal.loop-set-preserved
loop-set-preserved c =
    let k = c.loop-set in
    stepping_turn _ _ _ k.set c.row_after.result _ k.table k.invariant (omega arith) c.row_after.ensures c.next_with-set.ensures

pub returns : goal.returns
returns c = search (rules, stepping_end)
