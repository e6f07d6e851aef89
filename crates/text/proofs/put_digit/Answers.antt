-- `text::put_digit` meets its contract, one law for each way through it.
use borrow.Author.Rules.{rules}
use Rattle.text.proofs.Digits.{wrote_no_digit, wrote_digit, digit_room}
use Rattle.text.proofs.put_digit.Goals as goal

pub returns-then-n-unit : goal.returns-then-n-unit
returns-then-n-unit c = search (rules, wrote_no_digit)

pub put-requires : goal.put-requires
put-requires c = search (rules, digit_room)

pub returns : goal.returns
returns c = search (rules, wrote_digit)
