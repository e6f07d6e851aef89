-- The line of a refusal.
use mathlib.Core.List.{List, ◌++◌}
use Prim.Native.Nat.{ℕ, ◌≤◌}
use native.Mathlib.Omega.{arith}
use lib.ListN.{length, length-append}
use mir.Syntax.{w64}
use mir.Val.{Fits}
use Rattle.writer.specs.inner.Wrote.{Wrote}
use Rattle.writer.proofs.Writing.{wrote_append}
use Rattle.text.specs.Text.{ascii, decimal, refused_text}
use Rattle.text.proofs.Digits.{decimal_wide}

module _ (old one two new : List ℕ) (a b next : ℕ) where
  pub wrote_refused : (refusal : ℕ) → Wrote old 0 (ascii "refused ") one a → Wrote one a (decimal refusal) two b → Wrote two b (ascii "\n") new next
      → Wrote old 0 (refused_text refusal) new next
  unfolding refused_text
  wrote_refused refusal R D E =
      wrote_append old two new (ascii "refused " ++ decimal refusal) (ascii "\n") 0 b next
      (wrote_append old one two (ascii "refused ") (decimal refusal) 0 a b R D) E

-- How long it is.
module _ (v : ℕ) (f : Fits w64 v) where
  pub refused_short : length (refused_text v) ≤ 29
  unfolding refused_text
  refused_short =
      let x = length-append (ascii "refused " ++ decimal v) (ascii "\n") in
      let y = length-append (ascii "refused ") (decimal v) in
      let z = decimal_wide v f in
      omega arith
