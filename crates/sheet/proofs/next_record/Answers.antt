-- `sheet::next_record` meets its contract, one law for each way through it.
use borrow.Author.Rules.{rules}
use Rattle.sheet.proofs.Walk.{walk_inside, walk_step}
use Rattle.sheet.proofs.next_record.Goals as goal

pub record_end-requires : goal.record_end-requires
record_end-requires c = search (rules, walk_inside)

pub returns : goal.returns
returns c = search (rules, walk_step)
