-- The input divided: the sheet and the sequence as parts of the lent slice.
use mathlib.Core.List.{List}
use mathlib.Core.Path.{◌≡◌, ◌∙◌, ap, subst}
use Prim.Native.Nat.{ℕ, ◌-◌}
use native.Mathlib.Nat.{sub-zero}
use native.Mathlib.Omega.{arith}
use lib.IntN.{ℤ}
use lib.ListN.{length, length-drop, take, drop}
use lib.Seq.{take_all}
use Rattle.dimacs.specs.Text.{sheet_of, sequence_of}
use Rattle.dimacs.specs.inner.Split.{SheetEnd}
use Rattle.operations.specs.Outcome.{Outcome}
use Rattle.operations.specs.Calls.{Buffer, Promised}
use Rattle.operations.specs.Calls as call
use Rattle.office.specs.Office.{office}

module _ (input : List ℕ) (e : ℕ) (S : SheetEnd input e) where
  sheet_part : take (e - 0) input ≡ sheet_of input
  sheet_part = ap (λ k. take k input) (sub-zero e ∙ S.is)

  sequence_part : take (length input - e) (drop e input) ≡ sequence_of input
  sequence_part = take_all (length input - e) (drop e input) (let k = length-drop e input in omega arith) ∙ ap (λ k. drop k input) S.is

  pub parts_promise : (old : List ℤ) (o : Outcome) (b : Buffer) → Promised office (call.clauses (take (e - 0) input) (take (length input - e) (drop e input)) old) o b
      → Promised office (call.clauses (sheet_of input) (sequence_of input) old) o b
  parts_promise old o b E =
      subst (λ q. Promised office (call.clauses (sheet_of input) q old) o b) sequence_part
      (subst (λ s. Promised office (call.clauses s (take (length input - e) (drop e input)) old) o b) sheet_part E)
