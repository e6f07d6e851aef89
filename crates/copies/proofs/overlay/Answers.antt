-- `copies::overlay` meets its contract, one law for each way through it.
use borrow.Author.Rules.{rules}
use Rattle.copies.proofs.Tables.{overlay_turn}
use Rattle.copies.proofs.overlay.Goals as goal

pub loop-left-preserved : goal.loop-left-preserved
loop-left-preserved c = search (rules, overlay_turn)
