-- The program of a sheet that has passed questions 1 to 6.
use mathlib.Core.Bool.{true}
use mathlib.Core.List.{List}
use mathlib.Core.Path.{◌≡◌}
use Prim.Native.Nat.{ℕ}
use Rattle.asp.specs.Program.{well_formed}
use Rattle.sheet.specs.Format.{atoms_byte}
use Rattle.sheet.specs.inner.Walk.{form_refusal}
use Rattle.sheet.specs.Sheet.{records, program}
use Rattle.sheet.specs.declared.Limits.{Limits}
use Rattle.sheet.proofs.Walk.{records_sound}
use Rattle.choice.proofs.Expanded.{expanded_formed}

pub program_formed : (L : Limits) (s : List ℕ) → form_refusal L s ≡ 0 → well_formed (program s) ≡ true
unfolding program
program_formed L s e = expanded_formed (atoms_byte s) (records s) (records_sound L s e)
