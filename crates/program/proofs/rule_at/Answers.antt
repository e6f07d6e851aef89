-- `program::rule_at` meets its contract, one law for each way through it.
use borrow.Author.Rules.{rules}
use Rattle.program.proofs.Entries.{source_low, rule_read}
use Rattle.program.proofs.rule_at.Goals as goal

pub record_at-source-requires : goal.record_at-source-requires
record_at-source-requires c = search (rules, source_low)

pub returns : goal.returns
returns c = search (rules, rule_read)
