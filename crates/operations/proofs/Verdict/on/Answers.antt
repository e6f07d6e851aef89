-- `operations::Verdict::on` meets its contract, one law for each way through it.
use borrow.Author.Rules.{rules}
use Rattle.operations.proofs.Verdicts.{verdict_none, verdict_clear, verdict_split}
use Rattle.operations.proofs.Verdict.on.Goals as goal

pub returns-in-0 : goal.returns-in-0
returns-in-0 c = search (rules, verdict_none)

pub returns-in-1 : goal.returns-in-1
returns-in-1 c = search (rules, verdict_clear)

pub returns-in_default : goal.returns-in_default
returns-in_default c = search (rules, verdict_split)
