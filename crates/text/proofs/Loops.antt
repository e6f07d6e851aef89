-- Loops over a list, from its first element on, and the copy of a text.
use mathlib.Core.List.{List, [], ◌∷◌, append_assoc}
use mathlib.Core.Path.{◌≡◌, refl, sym, ◌∙◌, ap}
use Prim.Native.Nat.{ℕ, ◌+◌, ◌-◌, ◌≤◌, ◌<◌}
use native.Mathlib.Numerals.{add-one}
use native.Mathlib.Omega.{arith}
use borrow.Rule.Slice.PartMut.{put_mid}
use lib.ListN.{length, get_or, take, drop, drop_of_length-le}
use lib.Seq.{drop-cons}
use Rattle.std.proofs.lemmas.List.Edits.{sets-eq, paste_all}
use Rattle.std.proofs.lemmas.Slice.{put_mid-paste}
use Rattle.writer.specs.inner.Wrote.{Wrote}

module _ {A : Type 0} (l : List A) (i : ℕ) where
  pub left_cons : (d : A) → i < length l → drop i l ≡ get_or l i d ∷ drop (i + 1) l
  left_cons d h = drop-cons l i d h ∙ ap (λ k. get_or l i d ∷ drop k l) (sym (add-one i))

  pub text_end : length l ≤ i → drop i l ≡ []
  text_end h = drop_of_length-le l h

-- A text copied to a place where it has room.
pub copied_wrote : (old text new : List ℕ) (at k : ℕ) → new ≡ text → k ≡ length text → at + length text ≤ length old
    → Wrote old at text (put_mid at (at + k - at) old new) (at + k)
copied_wrote old text new at k e n room =
    record {
      stored = put_mid-paste at (at + k - at) old new text (length text) e (omega arith) refl
          ∙ (paste_all old at text (length text) refl ∙ (sym (append_assoc (take at old) text _) ∙ sym (sets-eq text old at room)));
      moved = ap (λ i. at + i) n;
    }
