-- `translation::program_of` meets its contract, one law for each way through it.
use mathlib.Core.Path.{◌≡◌}
use Prim.Native.Nat.{◌+◌}
use Rattle.sheet.specs.Sheet.{choices}
use Rattle.translation.proofs.Appending.{Ruling, Constraining}
use Rattle.translation.specs.inner.Records.{held, records_in}
use Rattle.translation.specs.inner.Translated.{entries}
use Rattle.translation.proofs.program_of.Given as goal

abbrev pub invariant-loop-j : goal.invariant-loop-j
invariant-loop-j l = Ruling l.n (held l.m l.records) l.j l.fresh (entries l.rules l.program)

abbrev pub invariant-loop-i : goal.invariant-loop-i
invariant-loop-i l = Constraining l.n (held l.m l.records) l.rules l.i (entries l.all l.program)
    × (l.fresh ≡ l.n + choices (records_in (held l.m l.records)))
