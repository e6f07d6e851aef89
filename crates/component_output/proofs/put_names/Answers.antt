use borrow.Author.Rules.{rules}
use Rattle.component_output.proofs.Loops.{names_room, names_wrote}
use Rattle.component_output.proofs.put_names.Goals as goal

pub slice_bounds-copy_from_slice-end : goal.slice_bounds-copy_from_slice-end
slice_bounds-copy_from_slice-end c = search (rules, names_room)

pub returns : goal.returns
returns c = search (rules, names_wrote)
