-- `chain_operations::test` meets its contract, one law for each way through it.
use Rattle.sheet_check.proofs.Sheets.{sheet_low, sheet_small}
use Rattle.chain_operations.proofs.Testing.{test_sheet, test_sequence}
use borrow.Author.Rules.{rules}
use Rattle.chain_operations.proofs.test.Goals as goal

pub returns-in_err-a : goal.returns-in_err-a
returns-in_err-a c = search (rules, test_sheet)

pub check_sequence-requires : goal.check_sequence-requires
check_sequence-requires c = let known = c.in_ok-a.ensures in (search (rules, sheet_low, known.value), search (rules, sheet_small, known.value))

pub returns : goal.returns
returns c = test_sequence _ _ _ _ _ _ _ c.in_ok-a.ensures _ c.check_sequence.ensures
