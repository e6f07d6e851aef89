-- `reader::read_record` meets its contract, one law for each way through it.
use borrow.Author.Tests.{not-true, not-false}
use borrow.Author.Rules.{rules}
use Rattle.sheet.proofs.Records.{known_complete}
use Rattle.reader.proofs.Reading.{entry_incomplete, entry_kind, entry_lists}
use Rattle.reader.proofs.read_record.Goals as goal

pub returns-then-not-is_complete : goal.returns-then-not-is_complete
returns-then-not-is_complete c = search (rules, not-true, entry_incomplete)

pub kind_passes-requires : goal.kind_passes-requires
kind_passes-requires c = search (rules, not-false, known_complete)

pub returns-then-not-kind_passes : goal.returns-then-not-kind_passes
returns-then-not-kind_passes c = search (rules, not-true, not-false, entry_kind)

pub read_lists-requires : goal.read_lists-requires
read_lists-requires c = search (rules, not-false, known_complete)

pub returns : goal.returns
returns c = search (rules, not-false, entry_lists)
