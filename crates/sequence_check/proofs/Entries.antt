-- Laws of the questions about the entries of a sequence, and of the chain question behind them.
use mathlib.Core.Bool.{Bool, true, false}
use mathlib.Core.List.{List}
use mathlib.Core.Path.{◌≡◌, refl, sym, ◌∙◌, ap}
use Prim.Native.Nat.{ℕ, ◌-◌, ◌≤◌, ◌<◌}
use native.Mathlib.Omega.{arith}
use borrow.Author.Tests.{le-leb, lt-leb}
use lib.ListN.{length, length-drop}
use Rattle.lists.specs.Lists.{below}
use Rattle.unfolding.specs.Chain.{passes}
use Rattle.asp.specs.Program.{Program}
use Rattle.std.proofs.Common.{Ok, Err}
use Rattle.refusals.specs.declared.Refusal.{Refusal}
use Rattle.refusals.specs.declared.Refusal.TheVariants as refusal
use Rattle.refusals.proofs.Asking.{number_positive, asked_value, asked_refusal}
use Rattle.sheet.specs.Questions.{ask, ◌then◌}
use Rattle.sheet.specs.Sequence.{entries, sequence_fits}
use Rattle.sheet.specs.declared.Limits.{Limits}
use Rattle.sheet.proofs.Questions.{ask_no, ask_yes, asked_yes, then_refused, then_zero}
use Rattle.sheet.proofs.Sequences.{Fits, fits_out}
use Rattle.chains.specs.inner.Components.{Graph, PassesBy}
use Rattle.operations.specs.Questions.{question16}
use Rattle.sequence_check.specs.inner.Checked.{entries_refusal, EntriesChecked, SequenceChecked}

-- Questions 8 and 16.
module _ (L : Limits) (n : ℕ) (q : List ℕ) (b : Bool) (B : b ≡ sequence_fits L n q) where
  pub entries_malformed : b ≡ false → EntriesChecked L n q (Err refusal.Sequence)
  unfolding entries_refusal
  entries_malformed f = asked_refusal _ (λ _. Unit {0}) refusal.Sequence (sym (ask_no (sym B ∙ f) 8 _ (λ e. omega arith)))

  module _ (t : b ≡ true) where
    pub entries_three : 3 ≤ length q
    entries_three = (fits_out L n q (sym B ∙ t)).three

    behind_eight : entries_refusal L n q ≡ question16 L q
    unfolding entries_refusal
    behind_eight = ask_yes (sym B ∙ t) 8 _

    pub entries_many : L.taken.entries < length q - 3 → EntriesChecked L n q (Err refusal.Long)
    unfolding ask
    entries_many l =
        let e = length-drop 3 q in
        asked_refusal _ (λ _. Unit {0}) refusal.Long (sym (behind_eight ∙ rw (lt-leb (length (entries q)) L.taken.entries (omega arith)) refl))

    pub entries_fine : length q - 3 ≤ L.taken.entries → EntriesChecked L n q (Ok tt)
    unfolding ask
    entries_fine l =
        let e = length-drop 3 q in
        asked_value _ (λ _. Unit {0}) tt (sym (behind_eight ∙ rw (le-leb (length (entries q)) L.taken.entries (omega arith)) refl)) tt

-- What a sequence that passes them is known by.
module _ (L : Limits) (n : ℕ) (q : List ℕ) (F : EntriesChecked L n q (Ok tt)) where
  pub sequence_fits_lem : Fits L n q
  unfolding entries_refusal
  sequence_fits_lem = fits_out L n q (asked_yes (sequence_fits L n q) 8 (question16 L q) (λ e. omega arith) (sym F.says)).0

  pub sequence_long : 3 ≤ length q
  sequence_long = sequence_fits_lem.three

  pub sequence_low : below n (entries q) ≡ true
  sequence_low = sequence_fits_lem.low

-- The chain question behind them.
module _ (L : Limits) (n : ℕ) (es ss q : List ℕ) where
  pub sequence_malformed : (e : Refusal) → EntriesChecked L n q (Err e) → SequenceChecked L n es ss q (Err e)
  sequence_malformed e F = let p = number_positive e in let f = F.says in record { says = λ P G. f ∙ sym (then_refused (entries_refusal L n q) _ (λ z. omega arith)) }

  module _ (F : EntriesChecked L n q (Ok tt)) (c : Bool) (C : PassesBy n es ss (entries q) c) where
    answers : (P : Program) → Graph P n es ss → ask c 9 ≡ entries_refusal L n q then ask (passes P (entries q)) 9
    answers P G = sym (then_zero (entries_refusal L n q) _ (sym F.says) ∙ ap (λ b. ask b 9) (sym (C.is P G)))

    pub sequence_lacks : c ≡ false → SequenceChecked L n es ss q (Err refusal.Chain)
    unfolding ask
    sequence_lacks u = record { says = λ P G. rw u at (answers P G) }

    pub sequence_passes : c ≡ true → SequenceChecked L n es ss q (Ok tt)
    unfolding ask
    sequence_passes u = record { says = λ P G. rw u at (answers P G) }
