-- `unfolded_output::put_entries` meets its contract, one law for each way through it.
use borrow.Author.Rules.{rules}
use Rattle.unfolded_output.proofs.Whole.{entries_room, entries_turn, entries_end}
use Rattle.unfolded_output.proofs.put_entries.Goals as goal

pub put_body-next-requires : goal.put_body-next-requires
put_body-next-requires c = search (rules, entries_room)

pub loop-j-preserved : goal.loop-j-preserved
loop-j-preserved c = search (rules, entries_turn)

pub returns : goal.returns
returns c = search (rules, entries_end)
