-- `body_operations::record_place` meets its contract, one law for each way through it.
use borrow.Author.Rules.{rules}
use Rattle.body_operations.proofs.Bodies.{going_start, going_left, going_turn, going_walk, going_end}
use Rattle.body_operations.proofs.record_place.Goals as goal

pub loop-i-init : goal.loop-i-init
loop-i-init c = search (rules, going_start)

pub overflow_sub-m : goal.overflow_sub-m
overflow_sub-m c = search (rules, going_left)

pub next_record-at-requires : goal.next_record-at-requires
next_record-at-requires c = search (rules, going_walk)

pub loop-i-preserved : goal.loop-i-preserved
loop-i-preserved c = search (rules, going_turn)

pub returns : goal.returns
returns c = search (rules, going_end)
