-- `reader::read_records` meets its contract, one law for each way through it.
use borrow.Author.Rules.{rules}
use Rattle.reader.proofs.Tabling.{tabling_start, tabling_turn, tabling_refused, tabling_left, tabling_end}
use Rattle.reader.proofs.read_records.Goals as goal

pub loop-j-init : goal.loop-j-init
loop-j-init c = search (rules, tabling_start)

pub returns-in_err-entry : goal.returns-in_err-entry
returns-in_err-entry c = search (rules, tabling_refused)

pub loop-j-preserved : goal.loop-j-preserved
loop-j-preserved c = search (rules, tabling_turn, c.in_ok-entry.ensures)

pub returns-then-at-s : goal.returns-then-at-s
returns-then-at-s c = search (rules, tabling_end)

pub returns : goal.returns
returns c = search (rules, tabling_left)
