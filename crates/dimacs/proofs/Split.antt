-- Where the sheet ends, one law for each way.
use mathlib.Core.Bool.{cond}
use mathlib.Core.List.{List}
use mathlib.Core.Path.{◌≡◌, refl, sym, ◌∙◌, ap}
use Prim.Native.Nat.{ℕ, ◌+◌, ◌*◌, ◌≤◌, ◌<◌, min}
use native.Mathlib.Omega.{arith}
use borrow.Author.Tests.{lt-ltb, le-ltb, ltb-true, ltb-false}
use lib.Dec.{ltb}
use lib.ListN.{length, get_or}
use Rattle.lists.proofs.Bools.{by_bool}
use Rattle.sheet.specs.Format.{length_field}
use Rattle.dimacs.specs.Text.{sheet_end}
use Rattle.dimacs.specs.inner.Split.{SheetEnd}

module _ (input : List ℕ) where
  pub split_few : length input < 3 → length input ≡ sheet_end input
  unfolding sheet_end
  split_few l = sym (rw (lt-ltb (length input) 3 l) refl)

  pub split_field : (a b r : ℕ) → 3 ≤ length input → a ≡ get_or input 1 0 → b ≡ get_or input 2 0 → r ≡ min (a * 256 + b) (length input) → SheetEnd input r
  unfolding sheet_end
  split_field a b r enough A B R =
      let field : a * 256 + b ≡ length_field input = omega arith in
      let end : min (length_field input) (length input) ≡ cond (ltb (length input) (length_field input)) (length input) (length_field input) =
      by_bool (ltb (length input) (length_field input))
      (λ t. let l = ltb-true (length input) (length_field input) t in rw t (omega arith))
      (λ f. let l = ltb-false (length input) (length_field input) f in rw f (omega arith)) in
      record { is = R ∙ (ap (λ k. min k (length input)) field ∙ (end ∙ sym (rw (le-ltb (length input) 3 enough) refl))); inside = omega arith }
