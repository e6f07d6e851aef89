-- `unfolded_output::put_unfolded` meets its contract, one law for each way through it.
use borrow.Author.Rules.{rules}
use Rattle.unfolded_output.proofs.Whole.{whole_first, whole_copies, whole_number, whole_constraints, words_wrote}
use Rattle.unfolded_output.proofs.put_unfolded.Goals as goal

pub put-requires : goal.put-requires
put-requires c = search (rules, whole_first)

pub put_copies-behind-requires : goal.put_copies-behind-requires
put_copies-behind-requires c = search (rules, whole_copies)

pub put-next-requires : goal.put-next-requires
put-next-requires c =
    whole_number _ _ _ _ _ _ c.requires.0 c.last_copies-lasts.ensures _ c.requires.1 _ _ c.put.ensures _ _ c.put_copies-behind.ensures

pub put_entries-requires : goal.put_entries-requires
put_entries-requires c =
    (c.last_copies-lasts.ensures, c.requires.0.readable.few, whole_constraints _ _ _ _ _ _ c.requires.0 c.last_copies-lasts.ensures _ c.requires.1 _ _ c.put.ensures _ _ c.put_copies-behind.ensures _ _ c.put-next.ensures)

pub returns : goal.returns
returns c =
    words_wrote _ _ _ _ _ _ c.requires.0 c.last_copies-lasts.ensures _ _ _ _ _ _ _ _ _ c.put.ensures c.put_copies-behind.ensures c.put-next.ensures c.put_entries.ensures
