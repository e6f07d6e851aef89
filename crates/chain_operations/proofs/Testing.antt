-- Laws of testing a sequence.
use mathlib.Core.List.{List}
use mathlib.Core.Path.{sym}
use Prim.Native.Nat.{ℕ}
use Rattle.std.proofs.Common.{Result, Ok, Err}
use Rattle.refusals.specs.declared.Refusal.{Refusal}
use Rattle.refusals.specs.Numbers.{number}
use Rattle.sheet.specs.declared.Limits.{Limits}
use Rattle.operations.specs.Outcome.{refused, from_test}
use Rattle.operations.specs.Calls.{nothing, describe, Promised}
use Rattle.operations.specs.Calls as call
use Rattle.operations.proofs.Promises.{promised_refused, promised_answered}
use Rattle.sheet_check.specs.inner.Checked.{SheetChecked}
use Rattle.sheet_check.specs.declared.SheetNumbers.{SheetNumbers}
use Rattle.sequence_check.specs.inner.Checked.{SequenceChecked}
use Rattle.sequence_check.proofs.Sequences.{sheet_says, sequence_says}

module _ (L : Limits) (s q es cs ss : List ℕ) where
  pub test_sheet : (e : Refusal) → SheetChecked L s es cs ss (Err e) → Promised L (call.test s q) (refused (number e)) nothing
  unfolding describe
  test_sheet e A = promised_refused L (call.test s q) e (sheet_says L s q es cs ss e A)

  pub test_sequence : (a : SheetNumbers) → SheetChecked L s es cs ss (Ok a) → (r : Result (Unit {0}) Refusal) → SequenceChecked L a.atoms es ss q r
      → Promised L (call.test s q) (from_test r) nothing
  unfolding describe
  test_sequence a A (Err e) Q = promised_refused L (call.test s q) e (sequence_says L s q es cs ss a A (Err e) Q)
  test_sequence a A (Ok x) Q = promised_answered L (call.test s q) (sym (sequence_says L s q es cs ss a A (Ok x) Q))
