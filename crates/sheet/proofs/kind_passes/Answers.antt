-- `sheet::kind_passes` meets its contract, one law for each way through it.
use borrow.Author.Rules.{rules}
use Rattle.sheet.proofs.Records.{kind_read}
use Rattle.sheet.proofs.kind_passes.Goals as goal

pub returns : goal.returns
returns c = search (rules, kind_read)
