-- Laws of reading.
use mathlib.Core.List.{List, [], ◌∷◌}
use mathlib.Core.Path.{◌≡◌, sym, ◌∙◌}
use Prim.Native.Nat.{ℕ}
use Rattle.std.proofs.Common.{Ok, Err}
use Rattle.refusals.specs.declared.Refusal.{Refusal}
use Rattle.refusals.specs.Numbers.{number}
use Rattle.sheet.specs.declared.Limits.{Limits}
use Rattle.operations.specs.Outcome.{refused, answered}
use Rattle.operations.specs.Calls.{nothing, describe, Promised}
use Rattle.operations.specs.Calls as call
use Rattle.operations.specs.inner.Refusals.{sheet_refusal, call_refusal}
use Rattle.operations.proofs.Questions.{nothing_behind, call_parted}
use Rattle.operations.proofs.Promises.{promised_refused, promised_answered}
use Rattle.sheet_check.specs.inner.Checked.{SheetChecked}
use Rattle.sheet_check.specs.declared.SheetNumbers.{SheetNumbers}

module _ (L : Limits) (s es cs ss : List ℕ) where
  asked : call_refusal L (call.read s) ≡ sheet_refusal L s
  unfolding describe
  asked = call_parted L (call.read s) ∙ nothing_behind L s

  pub read_refused : (e : Refusal) → SheetChecked L s es cs ss (Err e) → Promised L (call.read s) (refused (number e)) nothing
  unfolding describe
  read_refused e A = promised_refused L (call.read s) e (A.says ∙ sym asked)

  pub read_header : (r : SheetNumbers) → SheetChecked L s es cs ss (Ok r) → Promised L (call.read s) (answered (r.written ∷ r.records ∷ [])) nothing
  unfolding describe
  read_header r A = let K = A.value.accepted.bytes in rw (K.written, K.number) (promised_answered L (call.read s) (asked ∙ sym A.says))
