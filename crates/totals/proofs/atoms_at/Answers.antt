-- `totals::atoms_at` meets its contract, one law for each way through it.
use borrow.Author.Rules.{rules}
use Rattle.totals.proofs.Sizing.{adding_room, adding_turn, adding_end}
use Rattle.totals.proofs.atoms_at.Goals as goal

pub overflow_add-atoms : goal.overflow_add-atoms
overflow_add-atoms c = search (rules, adding_room)

pub loop-j-preserved : goal.loop-j-preserved
loop-j-preserved c = search (rules, adding_turn)

pub returns : goal.returns
returns c = search (rules, adding_end)
