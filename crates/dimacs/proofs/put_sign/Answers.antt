-- `dimacs::put_sign` meets its contract, one law for each way through it.
use Rattle.dimacs.proofs.Words.{sign_room, wrote_minus, wrote_no_sign}
use Rattle.dimacs.proofs.put_sign.Goals as goal

pub put-requires : goal.put-requires
put-requires c = sign_room _ _ _ c.ranges.w c.if-w-lt0.true c.requires

pub returns-then-w-lt0 : goal.returns-then-w-lt0
returns-then-w-lt0 c =
    wrote_minus _ _ _ _ _ c.ranges.w c.if-w-lt0.true c.put.ensures

pub returns : goal.returns
returns c = wrote_no_sign _ _ _ c.ranges.w c.if-w-lt0.false
