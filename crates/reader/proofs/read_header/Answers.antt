-- `reader::read_header` meets its contract, one law for each way through it.
use borrow.Author.Rules.{rules}
use Rattle.sheet.proofs.Records.{form_short, form_version, form_length, form_atoms, form_records, form_rest}
use Rattle.reader.proofs.Headers.{header_refused, header_passed}
use Rattle.reader.proofs.read_header.Goals as goal

pub returns-then-s-lt5 : goal.returns-then-s-lt5
returns-then-s-lt5 c = search (rules, header_refused, form_short)

pub returns-then-byte_at-ne1 : goal.returns-then-byte_at-ne1
returns-then-byte_at-ne1 c = search (rules, header_refused, form_version)

pub returns-then-byte_at-s : goal.returns-then-byte_at-s
returns-then-byte_at-s c = search (rules, header_refused, form_length)

pub returns-then-limits-atoms : goal.returns-then-limits-atoms
returns-then-limits-atoms c = search (rules, header_refused, form_atoms)

pub returns-then-limits-records : goal.returns-then-limits-records
returns-then-limits-records c = search (rules, header_refused, form_records)

pub returns : goal.returns
returns c = search (rules, header_passed, form_rest)
