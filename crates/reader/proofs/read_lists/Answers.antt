-- `reader::read_lists` meets its contract, one law for each way through it.
use borrow.Author.Rules.{rules}
use Rattle.reader.proofs.Reading.{read_pos, read_neg, read_both}
use Rattle.reader.proofs.read_lists.Goals as goal

pub returns-in_err-pos : goal.returns-in_err-pos
returns-in_err-pos c = search (rules, read_pos)

pub returns-in_err-neg : goal.returns-in_err-neg
returns-in_err-neg c = search (rules, read_neg)

pub returns : goal.returns
returns c = search (rules, read_both, c.in_ok-pos.ensures, c.in_ok-neg.ensures)
