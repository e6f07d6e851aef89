-- `sheet_check::check_bytes` meets its contract, one law for each way through it.
use borrow.Author.Rules.{rules}
use Rattle.sheet_check.proofs.Bytes.{bytes_header, bytes_long, bytes_atoms, bytes_count, bytes_records, bytes_sum, bytes_crowded, bytes_fine}
use Rattle.sheet_check.proofs.check_bytes.Goals as goal

pub returns-in_err-header : goal.returns-in_err-header
returns-in_err-header c = search (rules, bytes_header)

pub read_records-requires : goal.read_records-requires
read_records-requires c = (search (rules, bytes_long), search (rules, bytes_atoms), search (rules, bytes_count), search rules)

pub returns-in_err-read_records : goal.returns-in_err-read_records
returns-in_err-read_records c = search (rules, bytes_records)

pub choices_in-requires : goal.choices_in-requires
choices_in-requires c = search (rules, bytes_count)

pub overflow_add-atoms : goal.overflow_add-atoms
overflow_add-atoms c = search (rules, bytes_sum)

pub returns-then-limits-atoms : goal.returns-then-limits-atoms
returns-then-limits-atoms c = search (rules, bytes_crowded)

pub returns : goal.returns
returns c = search (rules, bytes_fine)
