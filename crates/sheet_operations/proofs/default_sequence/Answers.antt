-- `sheet_operations::default_sequence` meets its contract, one law for each way through it.
use Rattle.sheet_operations.proofs.Writing.{atoms_low, default_refused, entries_fit, default_full, blocks_room, default_done}
use borrow.Author.Rules.{rules}
use Rattle.sheet_operations.proofs.default_sequence.Goals as goal

pub returns-in_err-n : goal.returns-in_err-n
returns-in_err-n c = search (rules, default_refused)

pub blocks_length-t-requires : goal.blocks_length-t-requires
blocks_length-t-requires c = search (rules, atoms_low)

pub overflow_add-t : goal.overflow_add-t
overflow_add-t c = search (rules, entries_fit)

pub returns-then-out-t : goal.returns-then-out-t
returns-then-out-t c = search (rules, default_full, c.in_ok-n.ensures)

pub put_blocks-requires : goal.put_blocks-requires
put_blocks-requires c = search (rules, atoms_low, blocks_room)

pub returns : goal.returns
returns c = search (rules, default_done, c.in_ok-n.ensures)
