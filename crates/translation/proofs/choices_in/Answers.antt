-- `translation::choices_in` meets its contract, one law for each way through it.
use borrow.Author.Rules.{rules}
use Rattle.translation.proofs.Records.{choosing_turn, choosing_end}
use Rattle.translation.proofs.choices_in.Goals as goal

pub loop-j-preserved : goal.loop-j-preserved
loop-j-preserved c = search (rules, choosing_turn)

pub returns : goal.returns
returns c = search (rules, choosing_end)
