-- `program_check::check_program` meets its contract, one law for each way through it.
use borrow.Author.Rules.{rules}
use Rattle.program_check.proofs.Programs.{program_room, program_sheet, program_low, program_small, program_expandable, program_names, program_sequence, program_made}
use Rattle.program_check.proofs.check_program.Goals as goal

pub returns-in_err-a : goal.returns-in_err-a
returns-in_err-a c = search (rules, program_sheet)

pub check_sequence-requires : goal.check_sequence-requires
check_sequence-requires c = search (rules, program_low, program_small, c.in_ok-a.ensures)

pub returns-in_err-check_sequence : goal.returns-in_err-check_sequence
returns-in_err-check_sequence c = search (rules, program_sequence, c.in_ok-a.ensures)

pub component_sets-requires : goal.component_sets-requires
component_sets-requires c = search (rules, program_low, program_names, c.in_ok-a.ensures)

pub program_of-requires : goal.program_of-requires
program_of-requires c = let pre = c.requires in (search (rules, program_expandable, pre, c.in_ok-a.ensures), search (rules, program_room, pre))

pub returns : goal.returns
returns c = program_made _ _ _ _ _ _ _ c.in_ok-a.ensures _ c.in_ok-check_sequence.ensures c.requires.0 _ c.component_sets.ensures _ _ c.program_of.ensures
