-- `sequence_check::check_entries` meets its contract, one law for each way through it.
use Rattle.sequence_check.proofs.Entries.{entries_malformed, entries_three, entries_many, entries_fine}
use borrow.Author.Tests.{not-true, not-false}
use borrow.Author.Rules.{rules}
use Rattle.sequence_check.proofs.check_entries.Goals as goal

pub returns-then-not-sequence_fits : goal.returns-then-not-sequence_fits
returns-then-not-sequence_fits c = search (rules, not-true, entries_malformed)

pub overflow_sub-q : goal.overflow_sub-q
overflow_sub-q c = search (rules, not-false, entries_three)

pub returns-then-limits-q : goal.returns-then-limits-q
returns-then-limits-q c = search (rules, not-false, entries_many)

pub returns : goal.returns
returns c = search (rules, not-false, entries_fine)
