-- `dimacs::put_word` meets its contract, one law for each way through it.
use Rattle.dimacs.proofs.Words.{room_sign, room_magnitude, room_end, wrote_word}
use Rattle.dimacs.proofs.put_word.Goals as goal

pub put_sign-a-requires : goal.put_sign-a-requires
put_sign-a-requires c = room_sign _ c.ranges.w _ _ c.requires

pub put_decimal-b-requires : goal.put_decimal-b-requires
put_decimal-b-requires c =
    room_magnitude _ c.ranges.w _ _ c.requires _ _ _ c.unsigned_abs-v.ensures.value c.put_sign-a.ensures

pub put_end-requires : goal.put_end-requires
put_end-requires c =
    room_end _ c.ranges.w _ _ c.requires _ _ _ c.unsigned_abs-v.ensures.value c.put_sign-a.ensures _ _ c.put_decimal-b.ensures

pub returns : goal.returns
returns c =
    wrote_word _ c.ranges.w _ _ _ _ _ _ _ _ _ c.unsigned_abs-v.ensures.value c.put_sign-a.ensures c.put_decimal-b.ensures c.put_end.ensures
