-- The text of signed words.
use mathlib.Core.Bool.{true, false}
use mathlib.Core.List.{List, [], ◌∷◌, ◌++◌, flat_map}
use mathlib.Core.Path.{◌≡◌, refl, sym, ◌∙◌, ap, subst}
use Prim.Native.Nat.{ℕ, zero, suc, ◌+◌, ◌≤◌, ◌<◌}
use native.Mathlib.Nat.{add-zero}
use native.Mathlib.Omega.{arith}
use borrow.Author.Tests.{ltb-true}
use lib.IntN.{ℤ, pos, negsuc, nat_abs}
use lib.ListN.{length, length-append, get_or, drop}
use lib.Signed.{lt_z}
use mir.Syntax.{w32}
use mir.Val.{SFits, to_z, of_z}
use mir.ValLaws.{to_z-of_z}
use Rattle.lists.proofs.Bools.{true_false}
use Rattle.writer.specs.inner.Wrote.{Wrote}
use Rattle.writer.proofs.Writing.{wrote_append, wrote_length}
use Rattle.text.specs.Text.{decimal}
use Rattle.dimacs.specs.inner.Words.{sign_text, end_text, word_text, words_text}
use Rattle.text.proofs.Loops.{left_cons, text_end}

-- There is room for a sign where it is due.
module _ (at size : ℕ) where
  minus_room : (w : ℤ) → lt_z w (pos 0) ≡ true → at + length (sign_text w) ≤ size → at < size
  unfolding sign_text
  minus_room (pos v) l h = absurd (let h = ltb-true v 0 l in omega arith)
  minus_room (negsuc v) l h = omega arith

  pub sign_room : (w : ℤ) → SFits w32 w → lt_z (to_z w32 (of_z w32 w)) (pos 0) ≡ true → at + length (sign_text w) ≤ size → at < size
  sign_room w f l h = minus_room w (ap (λ z. lt_z z (pos 0)) (sym (to_z-of_z w32 w f)) ∙ l) h

  pub end_room : (v : ℕ) → at + length (end_text v) ≤ size → at < size
  unfolding end_text
  end_room zero h = omega arith
  end_room (suc v) h = omega arith

module _ (old new : List ℕ) (at next : ℕ) where
  minus : (w : ℤ) → lt_z w (pos 0) ≡ true → Wrote old at (45 ∷ []) new next → Wrote old at (sign_text w) new next
  unfolding sign_text
  minus (pos v) l W = absurd (let h = ltb-true v 0 l in omega arith)
  minus (negsuc v) l W = W

  pub wrote_minus : (w : ℤ) → SFits w32 w → lt_z (to_z w32 (of_z w32 w)) (pos 0) ≡ true → Wrote old at (45 ∷ []) new next → Wrote old at (sign_text w) new next
  wrote_minus w f l W = minus w (ap (λ z. lt_z z (pos 0)) (sym (to_z-of_z w32 w f)) ∙ l) W

  pub wrote_line : (v : ℕ) → v ≡ 0 → Wrote old at (10 ∷ []) new next → Wrote old at (end_text v) new next
  unfolding end_text
  wrote_line v e W = rw e W

  pub wrote_space : (v : ℕ) → (v ≡ 0 → ⊥) → Wrote old at (32 ∷ []) new next → Wrote old at (end_text v) new next
  unfolding end_text
  wrote_space zero ne W = absurd (ne refl)
  wrote_space (suc v) ne W = W

module _ (old : List ℕ) (at : ℕ) where
  no_sign : (w : ℤ) → lt_z w (pos 0) ≡ false → Wrote old at (sign_text w) old at
  unfolding sign_text
  no_sign (pos v) l = record { stored = refl; moved = sym (add-zero at) }
  no_sign (negsuc v) l = absurd (true_false refl l)

  pub wrote_no_sign : (w : ℤ) → SFits w32 w → lt_z (to_z w32 (of_z w32 w)) (pos 0) ≡ false → Wrote old at (sign_text w) old at
  wrote_no_sign w f l = no_sign w (ap (λ z. lt_z z (pos 0)) (sym (to_z-of_z w32 w f)) ∙ l)

-- A word: its sign, its magnitude, its end.
pub word_length : (w : ℤ) → length (word_text w) ≡ length (sign_text w) + length (decimal (nat_abs w)) + length (end_text (nat_abs w))
unfolding word_text
word_length w =
    length-append (sign_text w ++ decimal (nat_abs w)) (end_text (nat_abs w))
    ∙ ap (λ k. k + length (end_text (nat_abs w))) (length-append (sign_text w) (decimal (nat_abs w)))

-- Each part of a word's text is written from `again w`, which is w, and has room where all of it has.
module _ (w : ℤ) (f : SFits w32 w) where
  abbrev again : ℤ
  again = to_z w32 (of_z w32 w)

  same : again ≡ w
  same = to_z-of_z w32 w f

  pub room_sign : (at size : ℕ) → at + length (word_text w) ≤ size → at + length (sign_text again) ≤ size
  room_sign at size room = let e = word_length w in let s = ap (λ z. length (sign_text z)) same in omega arith

  module _ (old : List ℕ) (at : ℕ) (room : at + length (word_text w) ≤ length old) where
    module _ (one : List ℕ) (a v : ℕ) (m : v ≡ nat_abs again) (S : Wrote old at (sign_text again) one a) where
      pub room_magnitude : a + length (decimal v) ≤ length one
      room_magnitude =
          let n = wrote_length _ _ _ _ _ S in
          let e = word_length w in
          let s = ap (λ z. length (sign_text z)) same in
          let d = ap (λ k. length (decimal k)) (m ∙ ap nat_abs same) in
          let k = S.moved in
          omega arith

      pub room_end : (two : List ℕ) (b : ℕ) → Wrote one a (decimal v) two b → b + length (end_text v) ≤ length two
      room_end two b D =
          let n₁ = wrote_length _ _ _ _ _ S in
          let n₂ = wrote_length _ _ _ _ _ D in
          let e = word_length w in
          let s = ap (λ z. length (sign_text z)) same in
          let d = ap (λ k. length (decimal k)) (m ∙ ap nat_abs same) in
          let n = ap (λ k. length (end_text k)) (m ∙ ap nat_abs same) in
          let k = S.moved in
          let l = D.moved in
          omega arith

  pub wrote_word : (old one two new : List ℕ) (at a b next v : ℕ) → v ≡ nat_abs again → Wrote old at (sign_text again) one a → Wrote one a (decimal v) two b
      → Wrote two b (end_text v) new next → Wrote old at (word_text w) new next
  unfolding word_text
  wrote_word old one two new at a b next v m S D E =
      let front = wrote_append old one two (sign_text again) (decimal v) at a b S D in
      let all = wrote_append old two new (sign_text again ++ decimal v) (end_text v) at b next front E in
      subst (λ z. Wrote old at (sign_text z ++ decimal (nat_abs z) ++ end_text (nat_abs z)) new next) same
      (subst (λ k. Wrote old at (sign_text again ++ decimal k ++ end_text k) new next) m all)

-- The words from i on.
module _ (ws : List ℤ) (i : ℕ) where
  pub words_next : i < length ws → words_text (drop i ws) ≡ word_text (get_or ws i (pos 0)) ++ words_text (drop (i + 1) ws)
  unfolding words_text flat_map
  words_next h = ap words_text (left_cons ws i (pos 0) h)

  pub words_end : length ws ≤ i → words_text (drop i ws) ≡ []
  unfolding words_text flat_map
  words_end h = ap words_text (text_end ws i h)
