-- `sheet_check::check_sheet` meets its contract.
use borrow.Author.Rules.{rules}
use Rattle.sheet_check.proofs.Sheets.{checked_sheet}
use Rattle.sheet_check.proofs.check_sheet.Goals as goal

pub returns : goal.returns
returns c = search (rules, checked_sheet)
