-- Verdicts, and their numbers.
use Rattle.std.specs.Prelude.{ℕ}
use Rattle.asp.specs.Count.{Verdict, none, clear, split}
use Rattle.operations.specs.declared.Verdict as declared
use Rattle.operations.specs.declared.Verdict.TheVariants as verdict

-- A verdict as a number.
abbrev pub code : Verdict → ℕ
code none = 0
code clear = 1
code split = 2

-- The verdict that the code's stands for.
abbrev pub from_verdict : declared.Verdict → Verdict
from_verdict verdict.None = none
from_verdict verdict.Clear = clear
from_verdict verdict.Split = split
