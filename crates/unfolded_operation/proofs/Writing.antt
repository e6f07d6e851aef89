-- Laws of writing the unfolded program.
use mathlib.Core.List.{List, [], ◌∷◌}
use mathlib.Core.Path.{◌≡◌, refl, sym, ◌∙◌, ap, subst}
use Prim.Native.Nat.{ℕ, ◌≤◌, ◌<◌}
use native.Mathlib.Omega.{arith}
use lib.ListN.{length}
use Rattle.unfolding.specs.Unfolded.{words, unfolded}
use Rattle.std.proofs.Common.{Ok, Err}
use Rattle.refusals.specs.declared.Refusal.{Refusal}
use Rattle.refusals.specs.Numbers.{number}
use Rattle.sheet.specs.Questions.{◌then◌, first_refusal}
use Rattle.sheet.specs.Sequence.{entries}
use Rattle.sheet.specs.declared.Limits.{Limits}
use Rattle.program.specs.inner.Held.{ProgramTable, table_of}
use Rattle.program.specs.declared.ProgramSize.{ProgramSize}
use Rattle.writer.specs.inner.Wrote.{Wrote}
use Rattle.copies.specs.inner.Ready.{unfolded_in}
use Rattle.operations.specs.Outcome.{refused, answered}
use Rattle.operations.specs.Outputs.{unfolded_output}
use Rattle.operations.specs.Questions.{question9}
use Rattle.operations.specs.Calls.{with_sequence, naturals, describe, Promised}
use Rattle.operations.specs.Calls as call
use Rattle.operations.specs.inner.Refusals.{input_refusal}
use Rattle.operations.proofs.Writing.{room_refused, room_full, room_done}
use Rattle.program_check.specs.inner.Checked.{ProgramChecked}
use Rattle.program_check.proofs.Programs.{program_asked}

module _ (L : Limits) (s q components records program : List ℕ) where
  pub unfolded_refused : (old : List ℕ) (e : Refusal) → ProgramChecked L s q components records program (Err e)
      → Promised L (call.unfolded s q old) (refused (number e)) (naturals old)
  unfolding describe
  unfolded_refused old e A =
      room_refused L (call.unfolded s q old) naturals (with_sequence s q) (question9 s q ∷ []) (unfolded_output s q) [] old refl e
      (program_asked L s q components records program (Err e) A)

module _ (L : Limits) (s q components records program : List ℕ) (size : ProgramSize) (A : ProgramChecked L s q components records program (Ok size)) where
  abbrev t : ProgramTable
  t = table_of size records program

  passed : input_refusal L (with_sequence s q) then first_refusal (question9 s q ∷ []) ≡ 0
  passed = sym (program_asked L s q components records program (Ok size) A)

  -- The words of the table's program are those of the sheet's.
  output : words (unfolded_in t q) ≡ unfolded_output s q
  unfolding unfolded_output unfolded_in
  output = ap (λ P. words (unfolded P (entries q))) A.value.is

  module _ (old : List ℕ) (k : ℕ) (e : k ≡ length (words (unfolded_in t q))) where
    pub unfolded_full : length old < k → Promised L (call.unfolded s q old) (refused 10) (naturals old)
    unfolding describe
    unfolded_full l =
        room_full L (call.unfolded s q old) naturals (with_sequence s q) (question9 s q ∷ []) (unfolded_output s q) [] old refl passed (let f = e ∙ ap length output in omega arith)

    pub unfolded_done : (new : List ℕ) (next : ℕ) → k ≤ length old → Wrote old 0 (words (unfolded_in t q)) new next
        → Promised L (call.unfolded s q old) (answered (next ∷ [])) (naturals new)
    unfolding describe
    unfolded_done new next l W =
        room_done L (call.unfolded s q old) naturals (with_sequence s q) (question9 s q ∷ []) (unfolded_output s q) [] old refl passed new next (let f = e ∙ ap length output in omega arith)
        (subst (λ ws. Wrote old 0 ws new next) output W)
