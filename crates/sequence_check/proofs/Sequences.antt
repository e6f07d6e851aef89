-- Laws of the questions about a sequence behind those about a sheet.
use mathlib.Core.Bool.{true}
use mathlib.Core.List.{List, [], ◌∷◌}
use mathlib.Core.Path.{◌≡◌, sym, ◌∙◌, ap}
use Prim.Native.Nat.{ℕ}
use native.Mathlib.Omega.{arith}
use Rattle.std.proofs.Common.{Result, Ok, Err}
use Rattle.refusals.specs.declared.Refusal.{Refusal}
use Rattle.refusals.specs.Numbers.{number, refusal_of}
use Rattle.refusals.proofs.Asking.{number_positive}
use Rattle.sheet.specs.Questions.{ask, ◌then◌, first_refusal}
use Rattle.sheet.specs.Sequence.{sequence_fits}
use Rattle.sheet.specs.Sheet.{program}
use Rattle.sheet.specs.declared.Limits.{Limits}
use Rattle.sheet.proofs.Questions.{asked_yes, then_passed, then_refused, then_zero, then_none}
use Rattle.operations.specs.Questions.{question16, question9}
use Rattle.operations.specs.Calls.{with_sequence}
use Rattle.operations.specs.Calls as call
use Rattle.operations.specs.inner.Refusals.{sheet_refusal, input_refusal, call_refusal}
use Rattle.operations.proofs.Questions.{sequence_parted, test_parted}
use Rattle.sheet_check.specs.inner.Checked.{SheetChecked}
use Rattle.sheet_check.specs.declared.SheetNumbers.{SheetNumbers}
use Rattle.sheet_check.proofs.Sheets.{sheet_graph}
use Rattle.sequence_check.specs.inner.Checked.{entries_refusal, SequenceChecked}

module _ (L : Limits) (s q es cs ss : List ℕ) where
  -- A refusal of the sheet is one of what is given, whatever is asked behind it.
  module _ (e : Refusal) (A : SheetChecked L s es cs ss (Err e)) where
    pub sheet_refuses : (more : ℕ) → number e ≡ input_refusal L (with_sequence s q) then more
    sheet_refuses more =
        let p = number_positive e in
        let f = A.says in
        let here : input_refusal L (with_sequence s q) ≡ number e = sequence_parted L s q ∙ (then_refused (sheet_refusal L s) _ (λ z. omega arith) ∙ sym f) in
        sym (ap (λ r. r then more) here ∙ then_refused (number e) more (λ z. omega arith))

    pub sheet_says : number e ≡ call_refusal L (call.test s q)
    sheet_says = sheet_refuses (first_refusal (question9 s q ∷ [])) ∙ sym (test_parted L s q)

  module _ (a : SheetNumbers) (A : SheetChecked L s es cs ss (Ok a)) where
    -- Behind the sheet the entries decide.
    pub entries_decide : input_refusal L (with_sequence s q) ≡ entries_refusal L a.atoms q
    unfolding entries_refusal
    entries_decide =
        sequence_parted L s q
        ∙ (then_zero (sheet_refusal L s) _ (sym A.says) ∙ ap (λ n. ask (sequence_fits L n q) 8 then question16 L q) (sym A.value.accepted.bytes.atoms))

    pub sequence_says : (r : Result (Unit {0}) Refusal) → SequenceChecked L a.atoms es ss q r → refusal_of r ≡ call_refusal L (call.test s q)
    unfolding first_refusal
    sequence_says r Q =
        Q.says (program s) (sheet_graph L s es cs ss a A.value)
        ∙ (ap (λ k. k then question9 s q) (sym entries_decide)
        ∙ sym (test_parted L s q ∙ ap (λ k. input_refusal L (with_sequence s q) then k) (then_none (question9 s q))))

    pub sequence_formed : SequenceChecked L a.atoms es ss q (Ok tt) → sequence_fits L (program s).atoms q ≡ true
    sequence_formed Q =
        let given = (then_passed (input_refusal L (with_sequence s q)) _ (sym (test_parted L s q) ∙ sym (sequence_says (Ok tt) Q))).0 in
        let behind = (then_passed (sheet_refusal L s) _ (sym (sequence_parted L s q) ∙ given)).1 in
        (asked_yes (sequence_fits L (program s).atoms q) 8 (question16 L q) (λ e. omega arith) behind).0
