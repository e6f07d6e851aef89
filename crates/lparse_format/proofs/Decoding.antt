-- The text read back gives the program that it was made of.
use mathlib.Core.Bool.{Bool, true, false, not}
use mathlib.Core.List.Memᴰ
use mathlib.Core.List.{List, [], ◌∷◌, ◌++◌, map, flat_map, append_assoc, append-nil, Memᴰ}
use mathlib.Core.Path.{◌≡◌, refl, sym, ◌∙◌, ap, ap₂, subst}
use Prim.Native.Nat.{ℕ, zero, suc, ◌+◌, ◌-◌, ◌*◌, ◌/◌, ◌%◌, ◌<◌}
use native.Mathlib.Omega.{arith}
use borrow.Author.Tests.{eq-eqb, ne_eqb}
use lib.Dec.{eqb, ltb}
use lib.ListN.{length}
use lib.Seq.{take-append_seam, drop-append_seam, take-length}
use Rattle.lists.specs.Lists.{all, range}
use Rattle.lists.proofs.Bools.{by_bool, and_intro, and_left, and_right, not_intro, not_elim}
use Rattle.lists.proofs.Members.{all_append}
use Rattle.asp.specs.Program.{Body}
use Rattle.sheet.specs.Sheet.{Record}
use Rattle.text.specs.Text.{ascii, digit, digits, decimal}
use Rattle.text.proofs.Digits.{read_decimal}
use Rattle.lparse_format.specs.Program.{LparseRule, basic, choice, Symbol, LparseProgram, symbol, lparse_program}
use Rattle.lparse_format.specs.Text.{field_text, line, body_numbers, rule_text, symbol_text, atom_text, lparse_text}
use Rattle.lparse_format.specs.Decoded.{parts_at, fields_of, lines_of, number_in, numbers_of, first_of, ends_section, section_of, behind_section, read_body, read_rule, read_symbol, read_number, same, is_label, behind_label, read_lines, read_lparse}

-- The byte is not one of the bytes.
abbrev pub lacks : ℕ → List ℕ → Bool
lacks end l = all (λ b. not (eqb b end)) l

lacks_append : (end : ℕ) (l m : List ℕ) → lacks end l ≡ true → lacks end m ≡ true → lacks end (l ++ m) ≡ true
lacks_append end l m p q = rw (all_append (λ b. not (eqb b end)) l m) (and_intro p q)

-- Up to the byte that ends it there is one part.
parts_first : (end : ℕ) (part p rest : List ℕ) → lacks end p ≡ true → parts_at end part (p ++ (end ∷ rest)) ≡ (part ++ p) ∷ parts_at end [] rest
unfolding parts_at all
parts_first end part [] rest e = rw (eq-eqb end end refl) (ap (λ l. l ∷ parts_at end [] rest) (sym (append-nil part)))
parts_first end part (b ∷ p) rest e =
    let other : eqb b end ≡ false = not_elim (and_left (not (eqb b end)) (lacks end p) e) in
    rw other (parts_first end (part ++ (b ∷ [])) p rest (and_right (not (eqb b end)) (lacks end p) e) ∙ ap (λ l. l ∷ parts_at end [] rest) (append_assoc part (b ∷ []) p))

-- Digits are 48 and more.
module _ (end : ℕ) (low : end < 48) where
  lacks_digit : (d : ℕ) → lacks end (digit d ∷ []) ≡ true
  unfolding all
  lacks_digit d = rw (ne_eqb (digit d) end (λ e. omega arith)) refl

  lacks_digits : (k n : ℕ) → lacks end (digits k n) ≡ true
  unfolding digits all
  lacks_digits zero n = refl
  lacks_digits (suc k) n =
      by_bool (ltb n 10) (λ t. rw t (lacks_digit n)) (λ f. rw f (lacks_append end (digits k (n / 10)) (digit (n % 10) ∷ []) (lacks_digits k (n / 10)) (lacks_digit (n % 10))))

  pub lacks_decimal : (n : ℕ) → lacks end (decimal n) ≡ true
  unfolding decimal
  lacks_decimal n = lacks_digits (suc n) n

-- A number is read back.
read_digit : (n d : ℕ) (bs : List ℕ) → d < 10 → number_in n (digit d ∷ bs) ≡ number_in (n * 10 + d) bs
unfolding number_in
read_digit n d bs l = ap (λ k. number_in (n * 10 + k) bs) (let e : digit d - 48 ≡ d = omega arith in e)

read_number_lem : (n : ℕ) → number_in 0 (decimal n) ≡ n
unfolding number_in
read_number_lem n = ap (number_in 0) (sym (append-nil (decimal n))) ∙ read_decimal number_in read_digit n []

read_numbers : (ks : List ℕ) → numbers_of (map decimal ks) ≡ ks
read_numbers [] = refl
read_numbers (k ∷ ks) = ap₂ (λ j js. j ∷ js) (read_number_lem k) (read_numbers ks)

-- The text is one line with these fields.
abbrev Reads : List ℕ → List (List ℕ) → Type 0
Reads t fields = (rest : List ℕ) → lines_of (t ++ rest) ≡ fields ∷ lines_of rest

reads_line : (l : List ℕ) → lacks 10 l ≡ true → Reads (l ++ ascii "\n") (fields_of l)
unfolding lines_of
reads_line l e rest = ap (λ t. map fields_of (parts_at 10 [] t)) (append_assoc l (ascii "\n") rest) ∙ ap (map fields_of) (parts_first 10 [] l rest e)

-- A line of numbers.
lacks_fields : (ks : List ℕ) → lacks 10 (flat_map field_text ks) ≡ true
unfolding flat_map field_text all
lacks_fields [] = refl
lacks_fields (k ∷ ks) = lacks_append 10 (decimal k) (flat_map field_text ks) (lacks_decimal 10 (omega arith) k) (lacks_fields ks)

number_fields : (k : ℕ) (ks : List ℕ) → fields_of (decimal k ++ flat_map field_text ks) ≡ map decimal (k ∷ ks)
unfolding fields_of flat_map field_text parts_at
number_fields k [] = ap (parts_at 32 []) (append_assoc (decimal k) [] (ascii " ")) ∙ parts_first 32 [] (decimal k) [] (lacks_decimal 32 (omega arith) k)
number_fields k (j ∷ ks) =
    ap (parts_at 32 []) (append_assoc (decimal k) (field_text j ++ flat_map field_text ks) (ascii " "))
    ∙ (parts_first 32 [] (decimal k) (decimal j ++ flat_map field_text ks ++ ascii " ") (lacks_decimal 32 (omega arith) k) ∙ ap (λ l. decimal k ∷ l) (number_fields j ks))

reads_numbers : (k : ℕ) (ks : List ℕ) → Reads (line k ks) (map decimal (k ∷ ks))
unfolding line
reads_numbers k ks =
    subst (Reads (decimal k ++ flat_map field_text ks ++ ascii "\n")) (number_fields k ks)
    (reads_line (decimal k ++ flat_map field_text ks) (lacks_append 10 (decimal k) (flat_map field_text ks) (lacks_decimal 10 (omega arith) k) (lacks_fields ks)))

-- A text of a number_in is one line that does not end a part, and the number_in is read back from its fields.
pub record Line {A : Type 0} (text : A → List ℕ) (back : List (List ℕ) → A) (x : A) : Type 0 where
  fields : List (List ℕ)
  reads : Reads (text x) fields
  inner : ends_section fields ≡ false
  is : back fields ≡ x

-- A section of lines, with the line that ends it, and a text behind it.
abbrev section_text : {A : Type 0} → (A → List ℕ) → List A → List ℕ → List ℕ
section_text text xs rest = flat_map text xs ++ (ascii "0\n" ++ rest)

-- What is read of it: its values, and the lines behind it.
record Section {A : Type 0} (back : List (List ℕ) → A) (xs : List A) (lines rest : List (List (List ℕ))) : Type 0 where
  inside : map back (section_of lines) ≡ xs
  behind : behind_section lines ≡ rest

module _ {A : Type 0} (text : A → List ℕ) (back : List (List ℕ) → A) where
  section_line : (x : A) (xs : List A) (L : Line text back x) (rest : List ℕ) → lines_of (section_text text (x ∷ xs) rest) ≡ L.fields ∷ lines_of (section_text text xs rest)
  unfolding flat_map
  section_line x xs L rest = ap lines_of (append_assoc (text x) (flat_map text xs) (ascii "0\n" ++ rest)) ∙ L.reads (section_text text xs rest)

  read_section : (xs : List A) → ((x : A) → Memᴰ x xs → Line text back x) → (rest : List ℕ) → Section back xs (lines_of (section_text text xs rest)) (lines_of rest)
  unfolding section_of behind_section lines_of parts_at flat_map ends_section fields_of number_in first_of
  read_section [] h rest = record { inside = refl; behind = refl }
  read_section (x ∷ xs) h rest =
      let L = h x (Memᴰ.head refl) in
      let P = read_section xs (λ y m. h y (Memᴰ.tail m)) rest in
      record {
        inside = ap (λ ls. map back (section_of ls)) (section_line x xs L rest) ∙ rw L.inner (ap₂ (λ y l. y ∷ l) L.is P.inside);
        behind = ap behind_section (section_line x xs L rest) ∙ rw L.inner P.behind;
      }

-- Rules.
read_body_lem : (b : Body) → read_body (body_numbers b) ≡ b
unfolding read_body body_numbers
read_body_lem b =
    let e : length b.neg + length b.pos - length b.neg ≡ length b.pos = omega arith in
    rw (e, take-append_seam b.neg b.pos, drop-append_seam b.neg b.pos, take-length b.pos) refl

rule_line : (q : LparseRule) → Line rule_text (λ l. read_rule (numbers_of l)) q
unfolding rule_text read_rule ends_section first_of
rule_line (basic head b) =
    record {
      fields = map decimal (1 ∷ head ∷ body_numbers b);
      reads = reads_numbers 1 (head ∷ body_numbers b);
      inner = rw read_number_lem refl;
      is = ap read_rule (read_numbers (1 ∷ head ∷ body_numbers b)) ∙ ap (basic head) (read_body_lem b);
    }
rule_line (choice heads b) =
    record {
      fields = map decimal (3 ∷ length heads ∷ (heads ++ body_numbers b));
      reads = reads_numbers 3 (length heads ∷ (heads ++ body_numbers b));
      inner = rw read_number_lem refl;
      is = ap read_rule (read_numbers (3 ∷ length heads ∷ (heads ++ body_numbers b))) ∙ rw (take-append_seam heads (body_numbers b), drop-append_seam heads (body_numbers b), read_body_lem b) refl;
    }

-- Symbols.
symbol_fields : (s : Symbol) → lacks 32 s.name ≡ true → fields_of (decimal s.atom ++ ascii " " ++ s.name) ≡ decimal s.atom ∷ s.name ∷ []
unfolding fields_of parts_at
symbol_fields s e =
    ap (parts_at 32 []) regroup
    ∙ (parts_first 32 [] (decimal s.atom) (s.name ++ ascii " ") (lacks_decimal 32 (omega arith) s.atom) ∙ ap (λ l. decimal s.atom ∷ l) (parts_first 32 [] s.name [] e))
  where
    regroup : decimal s.atom ++ ascii " " ++ s.name ++ ascii " " ≡ decimal s.atom ++ (ascii " " ++ (s.name ++ ascii " "))
    regroup = simp append_assoc

pub symbol_line_lem : (s : Symbol) → 0 < s.atom → lacks 10 s.name ≡ true → lacks 32 s.name ≡ true → Line symbol_text read_symbol s
unfolding symbol_text read_symbol ends_section first_of all
symbol_line_lem s low e f =
    record {
      fields = decimal s.atom ∷ s.name ∷ [];
      reads = subst (Reads (symbol_text s)) (symbol_fields s f) (reads_line (decimal s.atom ++ ascii " " ++ s.name)
          (lacks_append 10 (decimal s.atom ++ ascii " ") s.name (lacks_append 10 (decimal s.atom) (ascii " ") (lacks_decimal 10 (omega arith) s.atom) refl) e));
      inner = rw read_number_lem (ne_eqb s.atom 0 (λ q. omega arith));
      is = rw read_number_lem refl;
    }

-- Atoms of B+ and B-.
atom_line : (a : ℕ) → 0 < a → Line atom_text read_number a
unfolding atom_text read_number ends_section first_of
atom_line a low = record { fields = decimal a ∷ []; reads = reads_numbers a []; inner = rw read_number_lem (ne_eqb a 0 (λ q. omega arith)); is = read_number_lem a }

-- The whole, where the names have no space and no line end and no atom is 0.
module _ (E : LparseProgram) (symbols : (s : Symbol) → Memᴰ s E.symbols → Line symbol_text read_symbol s)
    (plus : (a : ℕ) → Memᴰ a E.plus → 0 < a) (minus : (a : ℕ) → Memᴰ a E.minus → 0 < a) where
  -- The text from the symbols on, behind B+ and behind B-.
  abbrev behind_minus : List ℕ
  behind_minus = section_text atom_text E.minus (line E.models [])

  abbrev behind_plus : List ℕ
  behind_plus = section_text atom_text E.plus (ascii "B-\n" ++ behind_minus)

  abbrev behind_rules : List ℕ
  behind_rules = section_text symbol_text E.symbols (ascii "B+\n" ++ behind_plus)

  regroup : lparse_text E ≡ section_text rule_text E.rules behind_rules
  unfolding lparse_text
  regroup = simp append_assoc

  read_models : first_of (map read_number (lines_of (line E.models []))) ≡ E.models
  unfolding read_number first_of lines_of parts_at
  read_models =
      ap (λ t. first_of (map read_number (lines_of t))) (sym (append-nil (line E.models [])))
      ∙ (ap (λ ls. first_of (map read_number ls)) (reads_numbers E.models [] []) ∙ read_number_lem E.models)

  pub read_text : read_lparse (lparse_text E) ≡ E
  unfolding read_lparse read_lines behind_label is_label same lines_of fields_of parts_at
  read_text =
      let R = read_section rule_text (λ l. read_rule (numbers_of l)) E.rules (λ q _. rule_line q) behind_rules in
      let S = read_section symbol_text read_symbol E.symbols symbols (ascii "B+\n" ++ behind_plus) in
      let P = read_section atom_text read_number E.plus (λ a m. atom_line a (plus a m)) (ascii "B-\n" ++ behind_minus) in
      let M = read_section atom_text read_number E.minus (λ a m. atom_line a (minus a m)) (line E.models []) in
      ap read_lparse regroup ∙ rw (R.inside, R.behind, S.inside, S.behind, P.inside, P.behind, M.inside, M.behind, read_models) refl
