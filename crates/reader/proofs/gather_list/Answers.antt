-- `reader::gather_list` meets its contract, one law for each way through it.
use borrow.Author.Rules.{rules}
use Rattle.reader.proofs.Reading.{reading_start, reading_below, reading_above, reading_turn, reading_end}
use Rattle.reader.proofs.gather_list.Goals as goal

pub loop-b-init : goal.loop-b-init
loop-b-init c = search (rules, reading_start)

pub returns-then-a-low : goal.returns-then-a-low
returns-then-a-low c = search (rules, reading_below)

pub returns-then-n-a : goal.returns-then-n-a
returns-then-n-a c = search (rules, reading_above)

pub loop-b-preserved : goal.loop-b-preserved
loop-b-preserved c = search (rules, reading_turn)

pub returns : goal.returns
returns c = search (rules, reading_end)
