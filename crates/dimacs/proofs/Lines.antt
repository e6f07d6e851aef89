-- The first line.
use mathlib.Core.List.{List, ◌++◌}
use Prim.Native.Nat.{ℕ, ◌≤◌}
use native.Mathlib.Omega.{arith}
use lib.ListN.{length, length-append}
use mir.Syntax.{w64}
use mir.Val.{Fits}
use Rattle.writer.specs.inner.Wrote.{Wrote}
use Rattle.writer.proofs.Writing.{wrote_append}
use Rattle.text.specs.Text.{ascii, decimal}
use Rattle.text.proofs.Digits.{decimal_wide}
use Rattle.dimacs.specs.Text.{header_text}

module _ (old one two three four new : List ℕ) (a b c d next v n : ℕ) where
  pub wrote_header : Wrote old 0 (ascii "p cnf ") one a → Wrote one a (decimal v) two b → Wrote two b (ascii " ") three c → Wrote three c (decimal n) four d
      → Wrote four d (ascii "\n") new next → Wrote old 0 (header_text v n) new next
  unfolding header_text
  wrote_header P D S N E =
      wrote_append old four new (ascii "p cnf " ++ decimal v ++ ascii " " ++ decimal n) (ascii "\n") 0 d next
      (wrote_append old three four (ascii "p cnf " ++ decimal v ++ ascii " ") (decimal n) 0 c d
      (wrote_append old two three (ascii "p cnf " ++ decimal v) (ascii " ") 0 b c (wrote_append old one two (ascii "p cnf ") (decimal v) 0 a b P D) S) N) E

-- How long it is.
module _ (v : ℕ) (f : Fits w64 v) where
  pub header_short : (n : ℕ) → Fits w64 n → length (header_text v n) ≤ 48
  unfolding header_text
  header_short n g =
      let x = length-append (ascii "p cnf " ++ decimal v ++ ascii " " ++ decimal n) (ascii "\n") in
      let y = length-append (ascii "p cnf " ++ decimal v ++ ascii " ") (decimal n) in
      let z = length-append (ascii "p cnf " ++ decimal v) (ascii " ") in
      let w = length-append (ascii "p cnf ") (decimal v) in
      let k = decimal_wide v f in
      let l = decimal_wide n g in
      omega arith
