-- The text of the words of clauses is the text of the clauses, and it is short where their variables are small.
use mathlib.Core.List.Memᴰ
use mathlib.Core.List.{List, [], ◌∷◌, ◌++◌, map, flat_map, append_assoc}
use mathlib.Core.List.{Memᴰ}
use mathlib.Core.Logic.{⊎_elim}
use mathlib.Core.Path.{◌≡◌, refl, sym, ◌∙◌, ap, subst}
use Prim.Native.Nat.{ℕ, zero, suc, ◌*◌, ◌≤◌, ◌<◌}
use native.Mathlib.Omega.{arith}
use lib.IntN.{ℤ, pos, negsuc, nat_abs}
use lib.ListN.{length, length-append}
use Rattle.lists.proofs.Members.{flat_map_cong, flat_map_out}
use Rattle.unfolding.specs.Clauses.{Literal, positive, negative, variable_of, Clause, signed, clause_words, signed_words}
use Rattle.writer.proofs.Loops.{flat_map_map}
use Rattle.text.specs.Text.{ascii, digits, decimal}
use Rattle.dimacs.specs.Text.{literal_text, clause_text}
use Rattle.dimacs.specs.inner.Words.{sign_text, end_text, word_text, words_text}
use Rattle.text.proofs.Digits.{decimal_short}
use Rattle.dimacs.proofs.Words.{word_length}

words_append : (xs ys : List ℤ) → words_text (xs ++ ys) ≡ words_text xs ++ words_text ys
unfolding words_text flat_map
words_append [] ys = refl
words_append (x ∷ xs) ys = ap (λ t. word_text x ++ t) (words_append xs ys) ∙ sym (append_assoc (word_text x) (words_text xs) (words_text ys))

-- A literal with a space behind it.
word_literal : (l : Literal) → 1 ≤ variable_of l → word_text (signed l) ≡ literal_text l ++ ascii " "
unfolding variable_of signed word_text sign_text end_text literal_text
word_literal (positive zero) h = absurd (omega arith)
word_literal (positive (suc v)) h = refl
word_literal (negative zero) h = absurd (omega arith)
word_literal (negative (suc v)) h = refl

abbrev pub Numbered : Clause → Type 0
Numbered c = (l : Literal) → Memᴰ l c → 1 ≤ variable_of l

clause_text_lem : (c : Clause) → Numbered c → words_text (clause_words c) ≡ clause_text c
unfolding words_text flat_map clause_words clause_text word_text sign_text end_text decimal digits
clause_text_lem c h =
    words_append (map signed c) (pos 0 ∷ [])
    ∙ ap (λ t. t ++ ascii "0\n") (flat_map_map word_text signed c
    ∙ flat_map_cong (λ l. word_text (signed l)) (λ l. literal_text l ++ ascii " ") c (λ l m. word_literal l (h l m)))

pub clauses_text_lem : (cs : List Clause) → ((c : Clause) → Memᴰ c cs → Numbered c) → words_text (signed_words cs) ≡ flat_map clause_text cs
unfolding signed_words flat_map words_text
clauses_text_lem [] h = refl
clauses_text_lem (c ∷ cs) h =
    words_append (clause_words c) (signed_words cs)
    ∙ (ap (λ t. t ++ words_text (signed_words cs)) (clause_text_lem c (h c (Memᴰ.head refl)))
    ∙ ap (λ t. clause_text c ++ t) (clauses_text_lem cs (λ d m. h d (Memᴰ.tail m))))

-- A word of at most four digits.
sign_short : (w : ℤ) → length (sign_text w) ≤ 1
unfolding sign_text
sign_short (pos v) = omega arith
sign_short (negsuc v) = omega arith

end_short : (v : ℕ) → length (end_text v) ≤ 1
unfolding end_text
end_short zero = omega arith
end_short (suc v) = omega arith

word_short : (w : ℤ) → nat_abs w < 10000 → length (word_text w) ≤ 6
word_short w h = let e = word_length w in let d = decimal_short 3 (nat_abs w) (omega arith) in omega (arith, sign_short w, end_short (nat_abs w))

pub words_short : (ws : List ℤ) → ((w : ℤ) → Memᴰ w ws → nat_abs w < 10000) → length (words_text ws) ≤ 6 * length ws
unfolding words_text flat_map
words_short [] h = omega arith
words_short (w ∷ ws) h =
    let e = length-append (word_text w) (words_text ws) in
    let a = word_short w (h w (Memᴰ.head refl)) in
    let b = words_short ws (λ v m. h v (Memᴰ.tail m)) in
    omega arith

-- The words of clauses are their literals' and 0.
signed_magnitude : (l : Literal) → nat_abs (signed l) ≡ variable_of l
unfolding variable_of signed
signed_magnitude (positive v) = refl
signed_magnitude (negative zero) = refl
signed_magnitude (negative (suc v)) = refl

pub words_small : (n : ℕ) (cs : List Clause) → 0 < n → ((c : Clause) → Memᴰ c cs → (l : Literal) → Memᴰ l c → variable_of l < n)
    → (w : ℤ) → Memᴰ w (signed_words cs) → nat_abs w < n
unfolding signed_words clause_words
words_small n cs p h w m =
    let u = flat_map_out clause_words cs w m in
    ⊎_elim
    (λ k. let x = Memᴰ.of_map signed u.0 k in
    subst (λ z. nat_abs z < n) x.2 (subst (λ v. v < n) (sym (signed_magnitude x.0)) (h u.0 u.1 x.0 x.1)))
    (λ k. subst (λ z. nat_abs z < n) (sym (Memᴰ.eq_of_singleton k)) p) (Memᴰ.append_cases (map signed u.0) u.2)
