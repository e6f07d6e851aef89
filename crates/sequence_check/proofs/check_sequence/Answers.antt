-- `sequence_check::check_sequence` meets its contract, one law for each way through it.
use Rattle.sequence_check.proofs.Entries.{sequence_malformed, sequence_long, sequence_low, sequence_lacks, sequence_passes}
use borrow.Author.Tests.{not-true, not-false}
use borrow.Author.Rules.{rules}
use Rattle.std.proofs.lemmas.Result.{err_from_is_err_and}
use Rattle.sequence_check.proofs.check_sequence.Goals as goal

pub returns-in_err-check_entries : goal.returns-in_err-check_entries
returns-in_err-check_entries c =
    let p = err_from_is_err_and c.from_residual.result c.from_residual.ensures.1 in
    rw (p.1, p.2) (sequence_malformed _ _ _ _ _ _ c.in_err-check_entries.ensures)

pub passes-requires : goal.passes-requires
passes-requires c = search (rules, sequence_long, sequence_low)

pub returns-then-not-passes : goal.returns-then-not-passes
returns-then-not-passes c = search (rules, not-true, sequence_lacks)

pub returns : goal.returns
returns c = search (rules, not-false, sequence_passes)
