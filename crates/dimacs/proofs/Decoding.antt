-- The text read back gives the numbers that it was made of.
use mathlib.Core.Bool.{Bool, true, false, cond}
use mathlib.Core.List.{List, [], ◌∷◌, ◌++◌, flat_map, append_assoc}
use mathlib.Core.Path.{◌≡◌, refl, sym, ◌∙◌, ap}
use Prim.Native.Nat.{ℕ, zero, suc, ◌+◌, ◌-◌, ◌*◌, ◌<◌}
use native.Mathlib.Omega.{arith}
use borrow.Author.Tests.{ne_eqb, le-leb}
use lib.IntN.{ℤ, pos, negsuc, neg_ℤ}
use lib.ListN.{length, drop}
use Rattle.unfolding.specs.Clauses.{signed_words}
use Rattle.text.specs.Text.{ascii, digit, decimal}
use Rattle.text.proofs.Digits.{read_decimal}
use Rattle.dimacs.specs.Text.{header_text, dimacs_text}
use Rattle.dimacs.specs.Decoded.{numbers, read_dimacs, TextIsRead}
use Rattle.dimacs.specs.inner.Words.{sign_text, end_text, word_text, words_text}
use Rattle.dimacs.proofs.Clauses.{clauses_text_lem}

-- A digit is put behind those so far.
read_digit : (minus : Bool) (n d : ℕ) (bs : List ℕ) → d < 10 → numbers minus n (digit d ∷ bs) ≡ numbers minus (n * 10 + d) bs
unfolding numbers
read_digit minus n d bs l =
    rw (ne_eqb (digit d) 45 (λ e. omega arith), le-leb 48 (digit d) (omega arith)) (ap (λ k. numbers minus (n * 10 + k) bs) (let e : digit d - 48 ≡ d = omega arith in e))

read_number : (minus : Bool) (n : ℕ) (bs : List ℕ) → numbers minus 0 (decimal n ++ bs) ≡ numbers minus n bs
read_number minus = read_decimal (numbers minus) (read_digit minus)

-- The end of a word ends its number.
read_end : (minus : Bool) (n v : ℕ) (bs : List ℕ) → numbers minus n (end_text v ++ bs) ≡ cond minus (neg_ℤ (pos n)) (pos n) ∷ numbers false 0 bs
unfolding numbers end_text
read_end minus n zero bs = refl
read_end minus n (suc v) bs = refl

read_magnitude : (minus : Bool) (v : ℕ) (bs : List ℕ) → numbers minus 0 (decimal v ++ end_text v ++ bs) ≡ cond minus (neg_ℤ (pos v)) (pos v) ∷ numbers false 0 bs
read_magnitude minus v bs = ap (numbers minus 0) (append_assoc (decimal v) (end_text v) bs) ∙ (read_number minus v (end_text v ++ bs) ∙ read_end minus v v bs)

read_word : (w : ℤ) (bs : List ℕ) → numbers false 0 (word_text w ++ bs) ≡ w ∷ numbers false 0 bs
unfolding numbers word_text sign_text
read_word (pos v) bs = read_magnitude false v bs
read_word (negsuc v) bs = read_magnitude true (suc v) bs

read_words_lem : (ws : List ℤ) → numbers false 0 (words_text ws) ≡ ws
unfolding numbers words_text flat_map
read_words_lem [] = refl
read_words_lem (w ∷ ws) = read_word w (words_text ws) ∙ ap (λ zs. w ∷ zs) (read_words_lem ws)

read_lines_lem : (v n : ℕ) (bs : List ℕ) → read_dimacs (header_text v n ++ bs) ≡ pos v ∷ pos n ∷ numbers false 0 bs
unfolding read_dimacs header_text numbers
read_lines_lem v n bs =
    ap (λ t. numbers false 0 (drop 6 t)) regroup
    ∙ (read_number false v (ascii " " ++ (decimal n ++ (ascii "\n" ++ bs)))
    ∙ (space ∙ ap (λ zs. pos v ∷ zs) (read_number false n (ascii "\n" ++ bs) ∙ line)))
  where
    regroup : ascii "p cnf " ++ decimal v ++ ascii " " ++ decimal n ++ ascii "\n" ++ bs ≡ ascii "p cnf " ++ (decimal v ++ (ascii " " ++ (decimal n ++ (ascii "\n" ++ bs))))
    regroup = simp append_assoc

    space : numbers false v (ascii " " ++ (decimal n ++ (ascii "\n" ++ bs))) ≡ pos v ∷ numbers false 0 (decimal n ++ (ascii "\n" ++ bs))
    space = refl

    line : numbers false n (ascii "\n" ++ bs) ≡ pos n ∷ numbers false 0 bs
    line = refl

pub text_is_read : TextIsRead
unfolding dimacs_text
text_is_read v cs h =
    ap (λ t. read_dimacs (header_text v (length cs) ++ t)) (sym (clauses_text_lem cs h))
    ∙ (read_lines_lem v (length cs) (words_text (signed_words cs)) ∙ ap (λ zs. pos v ∷ pos (length cs) ∷ zs) (read_words_lem (signed_words cs)))
