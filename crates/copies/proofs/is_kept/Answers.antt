-- `copies::is_kept` meets its contract, one law for each way through it.
use borrow.Author.Rules.{rules}
use Rattle.program.proofs.Entries.{source_low}
use Rattle.copies.proofs.Keeping.{kept_head, kept_positives}
use Rattle.copies.proofs.is_kept.Goals as goal

pub returns-then-from-a : goal.returns-then-from-a
returns-then-from-a c = search (rules, kept_head)

pub record_at-source-requires : goal.record_at-source-requires
record_at-source-requires c = search (rules, source_low)

pub returns : goal.returns
returns c = search (rules, kept_positives)
