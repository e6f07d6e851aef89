-- `unfolded_output::put_copies` meets its contract, one law for each way through it.
use borrow.Author.Rules.{rules}
use Rattle.copies.proofs.Going.{ready_below}
use Rattle.copies.proofs.Emitting.{emitting_entry, emitting_highest}
use Rattle.unfolded_output.proofs.Whole.{copies_start, copies_ready, copies_turn, copies_end}
use Rattle.unfolded_output.proofs.put_copies.Goals as goal

pub last_places-places-requires : goal.last_places-places-requires
last_places-places-requires c = search (rules, ready_below)

pub loop-i-init : goal.loop-i-init
loop-i-init c = search (rules, copies_start)

pub copy_at-entry-requires : goal.copy_at-entry-requires
copy_at-entry-requires c = search (rules, emitting_entry, emitting_highest)

pub put_copy-at-requires : goal.put_copy-at-requires
put_copy-at-requires c =
    copies_ready _ _ _ _ _ _ _ _ _ _ _ _ _ _ c.loop-i.invariant c.loop-i-test.true _ c.copy_at-entry.ensures _ _ _ _ c.next_copy-step.ensures

pub loop-i-preserved : goal.loop-i-preserved
loop-i-preserved c = search (rules, copies_turn)

pub returns : goal.returns
returns c = search (rules, copies_end)
