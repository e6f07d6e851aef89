-- Laws of writing lparse text.
use mathlib.Core.List.{List, [], ◌∷◌}
use mathlib.Core.Path.{◌≡◌, refl, sym, ◌∙◌, ap, ap₂, subst}
use Prim.Native.Nat.{ℕ, ◌≤◌, ◌<◌}
use native.Mathlib.Omega.{arith}
use lib.ListN.{length}
use Rattle.std.proofs.Common.{Ok, Err}
use Rattle.refusals.specs.declared.Refusal.{Refusal}
use Rattle.refusals.specs.Numbers.{number}
use Rattle.sheet.specs.Questions.{◌then◌, first_refusal}
use Rattle.sheet.specs.declared.Limits.{Limits}
use Rattle.sheet.proofs.Walk.{formed}
use Rattle.writer.specs.inner.Wrote.{Wrote}
use Rattle.lparse_format.specs.Program.{lparse_program}
use Rattle.lparse_format.specs.Text.{lparse_text}
use Rattle.lparse_lines.specs.inner.Lines.{whole_text}
use Rattle.lparse_output.proofs.Whole.{whole_is}
use Rattle.operations.specs.Outcome.{refused, answered}
use Rattle.operations.specs.Outputs.{lparse_output}
use Rattle.operations.specs.Calls.{sheet, naturals, describe, Promised}
use Rattle.operations.specs.Calls as call
use Rattle.operations.specs.Requirements.{Supported}
use Rattle.operations.specs.inner.Refusals.{input_refusal}
use Rattle.operations.proofs.Questions.{nothing_behind}
use Rattle.operations.proofs.Writing.{room_refused, room_full, room_done}
use Rattle.sheet_check.specs.inner.Checked.{SheetAccepted, RecordsChecked}
use Rattle.sheet_check.specs.declared.SheetNumbers.{SheetNumbers}

module _ (L : Limits) (s t es cs ss : List ℕ) where
  pub lparse_refused : (old : List ℕ) (e : Refusal) → RecordsChecked L s t es cs ss (Err e) → Promised L (call.lparse s old) (refused (number e)) (naturals old)
  unfolding describe
  lparse_refused old e A = room_refused L (call.lparse s old) naturals (sheet s) [] (lparse_output s) [] old refl e (A.says ∙ sym (nothing_behind L s))

module _ (L : Limits) (s t es cs ss : List ℕ) (r : SheetNumbers) (A : RecordsChecked L s t es cs ss (Ok r)) where
  K : SheetAccepted L s cs ss r
  K = A.value.sheet.accepted

  passed : input_refusal L (sheet s) then first_refusal [] ≡ 0
  passed = nothing_behind L s ∙ sym A.says

  pub lparse_atoms : Supported L → r.written ≤ 64
  lparse_atoms S = let l = S.atoms in let n = K.bytes.written in omega (arith, (formed L s K.bytes.form).atoms)

  pub lparse_count : Supported L → r.records ≤ 128
  lparse_count S = let l = S.records in let m = K.bytes.number in omega (arith, (formed L s K.bytes.form).count)

  abbrev whole : List ℕ
  whole = whole_text r.written r.records t

  -- The text from the table is that of the sheet.
  output : whole ≡ lparse_output s
  unfolding lparse_output
  output = whole_is r.written r.records t ∙ ap₂ (λ n rs. lparse_text (lparse_program n rs)) K.bytes.written A.value.kept.list

  module _ (old : List ℕ) (size : ℕ) (e : size ≡ length whole) where
    pub lparse_full : length old < size → Promised L (call.lparse s old) (refused 10) (naturals old)
    unfolding describe
    lparse_full l = room_full L (call.lparse s old) naturals (sheet s) [] (lparse_output s) [] old refl passed (let f = ap length output in omega arith)

    pub lparse_done : (new : List ℕ) (next : ℕ) → size ≤ length old → Wrote old 0 whole new next → Promised L (call.lparse s old) (answered (next ∷ [])) (naturals new)
    unfolding describe
    lparse_done new next l W =
        room_done L (call.lparse s old) naturals (sheet s) [] (lparse_output s) [] old refl passed new next (let f = ap length output in omega arith)
        (subst (λ b. Wrote old 0 b new next) output W)
