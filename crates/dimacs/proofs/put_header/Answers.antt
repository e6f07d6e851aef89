-- `dimacs::put_header` meets its contract, one law for each way through it.
use native.Mathlib.Omega.{arith}
use Rattle.text.proofs.Digits.{decimal_wide}
use Rattle.dimacs.proofs.Lines.{wrote_header}
use Rattle.dimacs.proofs.put_header.Goals as goal

pub put_decimal-b-requires : goal.put_decimal-b-requires
put_decimal-b-requires c = omega (arith, decimal_wide _ c.ranges.variables)

pub put_text-c-requires : goal.put_text-c-requires
put_text-c-requires c =
    omega (arith, decimal_wide _ c.ranges.variables)

pub put_decimal-d-requires : goal.put_decimal-d-requires
put_decimal-d-requires c =
    omega (arith, decimal_wide _ c.ranges.variables, decimal_wide _ c.ranges.clauses)

pub put_text-requires : goal.put_text-requires
put_text-requires c =
    omega (arith, decimal_wide _ c.ranges.variables, decimal_wide _ c.ranges.clauses)

pub returns : goal.returns
returns c =
    wrote_header _ _ _ _ _ _ _ _ _ _ _ _ _
    c.put_text-a.ensures c.put_decimal-b.ensures c.put_text-c.ensures c.put_decimal-d.ensures c.put_text.ensures
