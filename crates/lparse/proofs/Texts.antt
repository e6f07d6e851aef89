-- The text for an input: the lparse text that is answered as written, or the refusal.
use mathlib.Core.Bool.{false}
use mathlib.Core.List.{List, [], ◌∷◌, ◌++◌}
use mathlib.Core.Path.{◌≡◌, refl, sym, ◌∙◌, ap, subst}
use Prim.Native.Nat.{ℕ}
use native.Mathlib.Omega.{arith}
use borrow.Author.Tests.{eq-eqb}
use lib.Dec.{eqb}
use lib.ListN.{length, length-append, length-replicate, take, drop}
use lib.Seq.{take-append_seam}
use Rattle.std.proofs.Common.{Result, Ok, Err}
use Rattle.refusals.specs.declared.Refusal.{Refusal}
use Rattle.refusals.specs.Numbers.{number}
use Rattle.refusals.proofs.Asking.{number_small}
use Rattle.sheet.specs.Questions.{first_refusal}
use Rattle.writer.specs.inner.Wrote.{Wrote}
use Rattle.writer.proofs.Writing.{wrote_front}
use Rattle.text.specs.Text.{refused_text}
use Rattle.text.proofs.Lines.{refused_short}
use Rattle.operations.specs.Outcome.{Outcome, refused, answered, from_write}
use Rattle.operations.specs.Outputs.{lparse_output}
use Rattle.operations.specs.Questions.{question10}
use Rattle.operations.specs.Calls.{sheet, naturals, over, describe, input_questions, questions, Promised}
use Rattle.operations.specs.Calls as call
use Rattle.operations.specs.inner.Refusals.{call_refusal}
use Rattle.operations.proofs.Promises.{promised_number, promised_passed, promised_values, promised_written}
use Rattle.office.specs.Office.{office}
use Rattle.lparse.specs.Printed.{lent_bytes, refusal, printed, Prints}

pub lent_size : length lent_bytes ≡ 65536
unfolding lent_bytes
lent_size = length-replicate {A = ℕ} 65536 0

module _ (input old new : List ℕ) (r : Result ℕ Refusal) (E : Promised office (call.lparse input old) (from_write r) (naturals new)) (size : length old ≡ 65536) where
  abbrev asked : ℕ
  asked = call_refusal office (call.lparse input old)

  abbrev output : List ℕ
  output = lparse_output input

  asked_is : asked ≡ refusal input
  unfolding refusal describe questions
  asked_is = ap (λ room. first_refusal (input_questions office (sheet input) ++ (question10 (lparse_output input) room ∷ []))) (size ∙ sym lent_size)

  promised : {o : Outcome} → from_write r ≡ o → Promised office (call.lparse input old) o (naturals new)
  promised e = subst (λ o. Promised office (call.lparse input old) o (naturals new)) e E

  pub answer_refused : (x : Refusal) → r ≡ Err x → (n : ℕ) → n ≡ number x → (after : List ℕ) (next : ℕ) → length new ≡ length old → Wrote new 0 (refused_text n) after next
      → Prints input after next
  unfolding printed
  answer_refused x e n is after next same W =
      let small = number_small x in
      let h = promised_number office (call.lparse input old) (naturals new) n (promised (ap from_write e ∙ ap refused (sym is))) in
      let no : eqb (refusal input) 0 ≡ false = ap (λ k. eqb k 0) (sym asked_is) ∙ h.1 in
      let l = refused_short n (record { fits = omega arith }) in
      let front = wrote_front new (refused_text n) after next W (omega arith) in
      record { inside = front.0; text = front.1 ∙ (ap refused_text (h.0 ∙ asked_is) ∙ sym (rw no refl)) }

  pub answer_written : (k : ℕ) → r ≡ Ok k → Prints input new k
  unfolding printed describe
  answer_written k e =
      let passed = promised_passed office (call.lparse input old) (naturals new) (k ∷ []) (promised (ap from_write e)) in
      let values : answered (k ∷ []) ≡ answered (length output ∷ []) = promised_values office (call.lparse input old) (naturals new) (k ∷ []) (promised (ap from_write e)) in
      let long : k ≡ length output = cc values in
      let written : naturals new ≡ naturals (over output old) = promised_written office (call.lparse input old) (naturals new) (k ∷ []) (promised (ap from_write e)) in
      let whole : new ≡ over output old = cc written in
      let room = ap length whole ∙ length-append output (drop (length output) old) in
      record {
        inside = omega arith;
        text = ap (λ j. take j new) long ∙ (ap (take (length output)) whole ∙ (take-append_seam output (drop (length output) old)
            ∙ sym (rw (eq-eqb (refusal input) 0 (sym asked_is ∙ passed)) refl)));
      }
