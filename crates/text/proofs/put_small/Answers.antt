-- `text::put_small` meets its contract, one law for each way through it.
use borrow.Author.Rules.{rules}
use Rattle.text.proofs.Digits.{digits_room, second_room, third_room, wrote_one_digit, wrote_two_digits, wrote_three_digits}
use Rattle.text.proofs.put_small.Goals as goal

pub put-requires : goal.put-requires
put-requires c = search (rules, digits_room)

pub returns-then-n-lt10 : goal.returns-then-n-lt10
returns-then-n-lt10 c = search (rules, wrote_one_digit)

pub put-a-requires : goal.put-a-requires
put-a-requires c = search (rules, digits_room)

pub put-requires-then-n-lt100 : goal.put-requires-then-n-lt100
put-requires-then-n-lt100 c = search (rules, second_room)

pub returns-then-n-lt100 : goal.returns-then-n-lt100
returns-then-n-lt100 c = search (rules, wrote_two_digits)

pub put-a-requires-2 : goal.put-a-requires-2
put-a-requires-2 c = search (rules, digits_room)

pub put-b-requires : goal.put-b-requires
put-b-requires c = search (rules, second_room)

pub put-requires-2 : goal.put-requires-2
put-requires-2 c =
    third_room _ _ _ c.requires.1 _ _ _ c.put-a-2.ensures _ _ _ c.put-b.ensures c.if-n-lt100.false c.requires.0

pub returns : goal.returns
returns c = search (rules, wrote_three_digits)
