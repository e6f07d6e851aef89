-- `copies::last_places` meets its contract, one law for each way through it.
use borrow.Author.Rules.{rules}
use Rattle.copies.proofs.Placing.{placing_low, placing_turn, placing_end}
use Rattle.copies.proofs.last_places.Goals as goal

pub bounds-places-from : goal.bounds-places-from
bounds-places-from c = search (rules, placing_low)

pub loop-i-preserved : goal.loop-i-preserved
loop-i-preserved c = search (rules, placing_turn)

pub returns : goal.returns
returns c = search (rules, placing_end)
