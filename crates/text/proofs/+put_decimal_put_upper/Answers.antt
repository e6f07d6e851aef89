-- `text::put_decimal` and `text::put_upper`, which call each other, meet their contracts.
use Rattle.std.proofs.Common.{arith}
use Rattle.text.proofs.Digits.{upper_room, room_1000, room_100, room_10, room_1, wrote_digits, wrote_none, wrote_upper, upper_enough}
use Rattle.text.proofs.+put_decimal_put_upper.Goals as goal

pub put_decimal-put_upper-a-requires : goal.put_decimal-put_upper-a-requires
put_decimal-put_upper-a-requires t c = (omega arith, upper_room _ _ _ c.requires)

pub put_decimal-put_digit-b-requires : goal.put_decimal-put_digit-b-requires
put_decimal-put_digit-b-requires t c = (room_1000 _ _ _ c.requires _ _ c.put_upper-a.ensures, omega arith)

pub put_decimal-put_digit-c-requires : goal.put_decimal-put_digit-c-requires
put_decimal-put_digit-c-requires t c = (room_100 _ _ _ c.requires _ _ c.put_upper-a.ensures _ _ c.put_digit-b.ensures, omega arith)

pub put_decimal-put_digit-d-requires : goal.put_decimal-put_digit-d-requires
put_decimal-put_digit-d-requires t c =
    (room_10 _ _ _ c.requires _ _ c.put_upper-a.ensures _ _ c.put_digit-b.ensures _ _ c.put_digit-c.ensures, omega arith)

pub put_decimal-put-requires : goal.put_decimal-put-requires
put_decimal-put-requires t c =
    room_1 _ _ _ c.requires _ _ c.put_upper-a.ensures _ _ c.put_digit-b.ensures _ _ c.put_digit-c.ensures _ _ c.put_digit-d.ensures

pub put_decimal-returns : goal.put_decimal-returns
put_decimal-returns t c =
    wrote_digits _ _ _ _ _ _ _ _ _ _ _ _ _
    c.put_upper-a.ensures c.put_digit-b.ensures c.put_digit-c.ensures c.put_digit-d.ensures c.put.ensures

pub put_upper-returns-then-n-lt10000 : goal.put_upper-returns-then-n-lt10000
put_upper-returns-then-n-lt10000 t c = wrote_none _ _ _ c.if-n-lt10000.true

pub put_upper-put_decimal-requires : goal.put_upper-put_decimal-requires
put_upper-put_decimal-requires t c = (omega arith, upper_enough _ _ _ c.if-n-lt10000.false c.requires)

pub put_upper-returns : goal.put_upper-returns
put_upper-returns t c = wrote_upper _ _ _ _ _ c.if-n-lt10000.false c.put_decimal.ensures
