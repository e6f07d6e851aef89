-- `sheet_operations::components` meets its contract, one law for each way through it.
use Rattle.sheet_operations.proofs.Writing.{atoms_low, components_refused, components_full, names_room, components_done}
use borrow.Author.Rules.{rules}
use Rattle.sheet_operations.proofs.components.Goals as goal

pub returns-in_err-n : goal.returns-in_err-n
returns-in_err-n c = search (rules, components_refused)

pub returns-then-out-n : goal.returns-then-out-n
returns-then-out-n c = search (rules, components_full, c.in_ok-n.ensures)

pub put_names-requires : goal.put_names-requires
put_names-requires c = search (rules, atoms_low, names_room)

pub returns : goal.returns
returns c = search (rules, components_done, c.in_ok-n.ensures)
