-- `text::put_refused` meets its contract, one law for each way through it.
use native.Mathlib.Omega.{arith}
use Rattle.text.proofs.Digits.{decimal_wide}
use Rattle.text.proofs.Lines.{wrote_refused}
use Rattle.text.proofs.put_refused.Goals as goal

pub put_decimal-b-requires : goal.put_decimal-b-requires
put_decimal-b-requires c = omega (arith, decimal_wide _ c.ranges.refusal)

pub put_text-requires : goal.put_text-requires
put_text-requires c =
    omega (arith, decimal_wide _ c.ranges.refusal)

pub returns : goal.returns
returns c =
    wrote_refused _ _ _ _ _ _ _ _ c.put_text-a.ensures c.put_decimal-b.ensures c.put_text.ensures
