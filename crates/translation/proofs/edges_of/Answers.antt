-- `translation::edges_of` meets its contract, one law for each way through it.
use borrow.Author.Rules.{rules}
use Rattle.translation.proofs.Linking.{linking_start, linking_fresh, linking_turn, linking_end}
use Rattle.translation.proofs.edges_of.Goals as goal

pub loop-j-init : goal.loop-j-init
loop-j-init c = search (rules, linking_start)

pub link_record-fresh-requires : goal.link_record-fresh-requires
link_record-fresh-requires c = (search rules, search (rules, linking_fresh))

pub loop-j-preserved : goal.loop-j-preserved
loop-j-preserved c = search (rules, linking_turn)

pub returns : goal.returns
returns c = search (rules, linking_end)
