use borrow.Author.Rules.{rules}
use Rattle.bits.proofs.Gathering.{gathering_low, gathering_turn}
use Rattle.bits.proofs.gather.Goals as goal

pub with-x-requires : goal.with-x-requires
with-x-requires c = search (rules, gathering_low)

pub loop-b-preserved : goal.loop-b-preserved
loop-b-preserved c = search (rules, gathering_turn)
