-- Laws of calls that write: question 10 behind other questions, for any output.
use mathlib.Core.List.{List, [], ◌∷◌}
use mathlib.Core.Path.{◌≡◌, refl, sym, ◌∙◌, ap, subst}
use Prim.Native.Nat.{ℕ, ◌≤◌, ◌<◌}
use native.Mathlib.Nat.{zero-add}
use native.Mathlib.Omega.{arith}
use borrow.Author.Tests.{le-leb, lt-leb}
use lib.ListN.{length}
use Rattle.refusals.specs.declared.Refusal.{Refusal}
use Rattle.refusals.specs.declared.Refusal.TheVariants as refusal
use Rattle.refusals.specs.Numbers.{number}
use Rattle.refusals.proofs.Asking.{number_positive}
use Rattle.sheet.specs.Questions.{ask, ◌then◌, first_refusal}
use Rattle.sheet.specs.declared.Limits.{Limits}
use Rattle.sheet.proofs.Questions.{then_zero, then_refused, then_none, then_assoc, first_append}
use Rattle.writer.specs.inner.Wrote.{Wrote}
use Rattle.writer.proofs.Writing.{wrote_whole}
use Rattle.operations.specs.Outcome.{refused, answered}
use Rattle.operations.specs.Questions.{question10}
use Rattle.operations.specs.Calls.{Call, Input, Buffer, writing, describe, Promised}
use Rattle.operations.specs.inner.Refusals.{input_refusal, call_refusal}
use Rattle.operations.proofs.Questions.{call_parted}
use Rattle.operations.proofs.Promises.{promised_refused, promised_answered}

module _ {A : Type 0} (L : Limits) (c : Call) (buffer : List A → Buffer) (input : Input) (further : List ℕ) (output : List A) (more : List ℕ) (old : List A)
    (is : describe c ≡ writing buffer input further output more old) where
  -- What is asked before question 10.
  abbrev asked : ℕ
  asked = input_refusal L input then first_refusal further

  room_asked : call_refusal L c ≡ asked then question10 output (length old)
  unfolding first_refusal
  room_asked =
      call_parted L c
      ∙ (ap (λ d. input_refusal L d.input then first_refusal d.further) is
      ∙ (ap (λ r. input_refusal L input then r) (first_append further (question10 output (length old) ∷ [])
      ∙ ap (λ r. first_refusal further then r) (then_none (question10 output (length old))))
      ∙ sym (then_assoc (input_refusal L input) (first_refusal further) (question10 output (length old)))))

  pub room_refused : (r : Refusal) → number r ≡ asked → Promised L c (refused (number r)) (buffer old)
  room_refused r e =
      let p = number_positive r in
      subst (Promised L c (refused (number r))) (ap (λ d. d.lent) is)
      (promised_refused L c r (e ∙ sym (room_asked ∙ then_refused asked _ (λ z. omega arith))))

  -- No room, and the whole output.
  module _ (passed : asked ≡ 0) where
    pub room_full : length old < length output → Promised L c (refused 10) (buffer old)
    unfolding ask
    room_full l =
        let same : call_refusal L c ≡ 10 = room_asked ∙ (then_zero asked _ passed ∙ rw (lt-leb (length output) (length old) l) refl) in
        subst (Promised L c (refused 10)) (ap (λ d. d.lent) is) (promised_refused L c refusal.Room (sym same))

    pub room_done : (new : List A) (next : ℕ) → length output ≤ length old → Wrote old 0 output new next → Promised L c (answered (next ∷ more)) (buffer new)
    unfolding ask
    room_done new next l W =
        let same : call_refusal L c ≡ 0 = room_asked ∙ (then_zero asked _ passed ∙ rw (le-leb (length output) (length old) l) refl) in
        let far : length output ≡ next = sym (W.moved ∙ zero-add (length output)) in
        let values : (describe c).values ≡ next ∷ more = ap (λ d. d.values) is ∙ ap (λ k. k ∷ more) far in
        let written : (describe c).written ≡ buffer new = ap (λ d. d.written) is ∙ ap buffer (sym (wrote_whole old output new next W l)) in
        subst (λ vs. Promised L c (answered vs) (buffer new)) values (subst (Promised L c (answered (describe c).values)) written (promised_answered L c same))
