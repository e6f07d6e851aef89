-- How long the text is at most, for 64 atoms, written and fresh, and 128 records.
use mathlib.Core.Bool.{true}
use mathlib.Core.List.{List, [], ◌∷◌, ◌++◌, map, flat_map, Memᴰ}
use mathlib.Core.Path.{◌≡◌, refl, ◌∙◌, ap}
use Prim.Native.Nat.{ℕ, suc, ◌+◌, ◌-◌, ◌*◌, ◌≤◌, ◌<◌}
use native.Mathlib.Omega.{arith}
use borrow.Author.Tests.{ltb-true, ltb-false}
use lib.Dec.{ltb, eqb}
use lib.ListN.{length, length-append, length-map}
use Rattle.lists.specs.Lists.{filter, range}
use Rattle.lists.proofs.Bools.{by_bool}
use Rattle.lists.proofs.Members.{flat_map_append}
use Rattle.lists.proofs.Sublists.{sublist_map, sublist_flat_map_length, sublist_range}
use Rattle.bits.proofs.Rising.{climb, climb_cons}
use Rattle.asp.specs.Program.{Body}
use Rattle.sheet.specs.Format.{list_fits}
use Rattle.sheet.specs.Sheet.{Record, choices}
use Rattle.sheet.specs.inner.Walk.{Sound, AllSound}
use Rattle.sheet.proofs.Lists.{climb_is}
use Rattle.sheet.proofs.Walk.{Ordered}
use Rattle.choice.specs.inner.FreeRules.{is_rule}
use Rattle.choice.proofs.Expanded.{head_written}
use Rattle.text.specs.Text.{ascii, digits, decimal}
use Rattle.text.proofs.Digits.{small_one, small_two, decimal_short}
use Rattle.lparse_format.specs.Program.{lparse_atom, lparse_body, lparse_rule, symbol, lparse_program}
use Rattle.lparse_format.specs.Text.{field_text, line, body_numbers, rule_text, symbol_text, atom_text, lparse_text}
use Rattle.lparse_format.proofs.Meaning.{by_kind}

-- A field is one byte longer than its number.
pub field_size : (k : ℕ) → length (field_text k) ≡ length (decimal k) + 1
unfolding field_text
field_size k = omega arith

digit_two : (k : ℕ) → k < 10 → length (field_text k) ≡ 2
digit_two k l = let D = small_one k l in omega (arith, field_size k)

-- An atom's field: 2 bytes below 8, else 3.
pub atom_two : (a : ℕ) → a < 8 → length (field_text (lparse_atom a)) ≡ 2
atom_two a l = digit_two (lparse_atom a) (omega arith)

pub atom_three : (a : ℕ) → 8 ≤ a → a < 64 → length (field_text (lparse_atom a)) ≡ 3
atom_three a l h = let D = small_two (lparse_atom a) (omega arith) (omega arith) in omega (arith, field_size (lparse_atom a))

-- The fields of a list of atoms.
abbrev atom_fields : List ℕ → List ℕ
atom_fields l = flat_map field_text (map lparse_atom l)

-- A list that rises strictly from low on, below n and so below k, has at most the numbers from low to k, and at most their fields: 3 bytes for each,
-- but one less for each below 8.
module _ (n k : ℕ) (more : n ≤ k) (wide : 8 ≤ k) (small : k ≤ 64) where
  climb_few : (low : ℕ) (l : List ℕ) → climb low n l ≡ true → low ≤ k → length l + low ≤ k
  climb_few low [] e r = omega arith
  climb_few low (x ∷ l) e r =
      let c = climb_cons low n x l e in
      let h = climb_few (suc x) l c.2 (omega (arith, c.1)) in
      omega (arith, c.0)

  climb_short : (low : ℕ) (l : List ℕ) → climb low n l ≡ true → low ≤ k → length (atom_fields l) + 3 * low + (8 - low) ≤ 3 * k
  unfolding flat_map
  climb_short low [] e r = omega arith
  climb_short low (x ∷ l) e r =
      let c = climb_cons low n x l e in
      let h = climb_short (suc x) l c.2 (omega (arith, c.1)) in
      let s = length-append (field_text (lparse_atom x)) (atom_fields l) in
      by_bool (ltb x 8) (λ t. omega (arith, c.0, atom_two x (ltb-true x 8 t))) (λ t. let u = ltb-false x 8 t in omega (arith, c.0, atom_three x u (omega (arith, c.1))))

  list_few : (l : List ℕ) → list_fits n l ≡ true → length l ≤ k
  list_few l e = omega (arith, climb_few 0 l (climb_is n l ∙ e) (omega arith))

  list_short : (l : List ℕ) → list_fits n l ≡ true → length (atom_fields l) + 8 ≤ 3 * k
  list_short l e = omega (arith, climb_short 0 l (climb_is n l ∙ e) (omega arith))

  -- A body: its two numbers have at most 3 and 2 digits.
  body_short : (b : Body) → list_fits n b.pos ≡ true → list_fits n b.neg ≡ true → length (flat_map field_text (body_numbers (lparse_body b))) + 9 ≤ 6 * k
  unfolding body_numbers lparse_body flat_map
  body_short b P N =
      let neg = map lparse_atom b.neg in
      let pos = map lparse_atom b.pos in
      let negatives = list_few b.neg N in
      let positives = list_few b.pos P in
      let e = length-map b.neg lparse_atom in
      let f = length-map b.pos lparse_atom in
      let all = decimal_short 2 (length neg + length pos) (omega arith) in
      let some = decimal_short 1 (length neg) (omega arith) in
      let g = length-append (field_text (length neg + length pos)) (field_text (length neg) ++ flat_map field_text (neg ++ pos)) in
      let h = length-append (field_text (length neg)) (flat_map field_text (neg ++ pos)) in
      let i = ap length (flat_map_append field_text neg pos) ∙ length-append (atom_fields b.neg) (atom_fields b.pos) in
      omega (arith, field_size (length neg + length pos), field_size (length neg), list_short b.neg N, list_short b.pos P)

-- A line of numbers that starts with a digit.
line_size : (k h : ℕ) (ks : List ℕ) → k < 10 → length (line k (h ∷ ks)) ≡ length (field_text h) + length (flat_map field_text ks) + 2
unfolding line flat_map
line_size k h ks l =
    let D = small_one k l in
    let e = length-append (decimal k ++ flat_map field_text (h ∷ ks)) (ascii "\n") in
    let f = length-append (decimal k) (flat_map field_text (h ∷ ks)) in
    let g = length-append (field_text h) (flat_map field_text ks) in
    omega arith

-- A record's line has at most 380 bytes; where it is a choice rule there are at most 63 written atoms.
module _ (n : ℕ) (r : Record) (S : Sound n r) (O : Ordered n r) (low : n ≤ 64) (less : r.kind ≡ 2 → n ≤ 63) where
  abbrev body : List ℕ
  body = body_numbers (lparse_body r.body)

  head_short : is_rule r ≡ true → length (field_text (lparse_atom r.head)) ≤ 3
  head_short t = let h = head_written n r S t in omega (arith, field_size (lparse_atom r.head), decimal_short 1 (lparse_atom r.head) (omega arith))

  rule_short : length (rule_text (lparse_rule r)) ≤ 380
  unfolding lparse_rule rule_text flat_map
  rule_short =
      let head = lparse_atom r.head in
      let all = body_short n 64 low (omega arith) (omega arith) r.body O.pos O.neg in
      by_kind n r S (λ k. rw k (omega (arith, line_size 1 head body (omega arith), head_short (rw k refl))))
      (λ k. rw k (omega (arith, line_size 1 1 body (omega arith), digit_two 1 (omega arith))))
      (λ k. rw k (omega (
        arith,
        line_size 3 1 (head ∷ body) (omega arith),
        digit_two 1 (omega arith),
        length-append (field_text head) (flat_map field_text body),
        head_short (rw k refl),
        body_short n 63 (less k) (omega arith) (omega arith) r.body O.pos O.neg,
      )))

-- A choice rule is one of the choice rules.
choice_counted : (r : Record) (rs : List Record) → r.kind ≡ 2 → 1 ≤ choices (r ∷ rs)
unfolding choices filter
choice_counted r rs k = rw k (omega arith)

choices_more : (r : Record) (rs : List Record) → choices rs ≤ choices (r ∷ rs)
unfolding choices filter
choices_more r rs = by_bool (eqb r.kind 2) (λ t. rw t (omega arith)) (λ f. rw f (omega arith))

rules_short : (n : ℕ) (rs : List Record) → AllSound n rs → ((r : Record) → Memᴰ r rs → Ordered n r) → n + choices rs ≤ 64
    → length (flat_map rule_text (map lparse_rule rs)) ≤ 380 * length rs
unfolding flat_map
rules_short n [] A B low = omega arith
rules_short n (r ∷ rs) A B low =
    let e = length-append (rule_text (lparse_rule r)) (flat_map rule_text (map lparse_rule rs)) in
    let here = rule_short n r (A r (Memᴰ.head refl)) (B r (Memᴰ.head refl)) (omega arith) (λ k. omega (arith, choice_counted r rs k)) in
    let rest = rules_short n rs (λ q m. A q (Memᴰ.tail m)) (λ q m. B q (Memᴰ.tail m)) (omega (arith, choices_more r rs)) in
    omega arith

-- The symbol table.
symbols_all : length (flat_map symbol_text (map symbol (range 0 64))) ≡ 430
unfolding flat_map symbol_text symbol range decimal digits
symbols_all = refl

symbols_short : (n : ℕ) → n ≤ 64 → length (flat_map symbol_text (map symbol (range 0 n))) ≤ 430
symbols_short n l = omega (arith, symbols_all, sublist_flat_map_length symbol_text (sublist_map symbol (sublist_range 0 n 64 l)))

-- The rest are 18 bytes.
text_size : (n : ℕ) (rs : List Record) → length (lparse_text (lparse_program n rs)) ≡ length (flat_map rule_text (map lparse_rule rs)) + length (flat_map symbol_text (map symbol (range 0 n))) + 18
unfolding lparse_text lparse_program flat_map atom_text line decimal digits
text_size n rs = simp length-append (omega arith)

-- 128 lines of at most 380 bytes, a symbol table of at most 430, and 18 more.
pub text_short : (n : ℕ) (rs : List Record) → AllSound n rs → ((r : Record) → Memᴰ r rs → Ordered n r) → n + choices rs ≤ 64 → length rs ≤ 128
    → length (lparse_text (lparse_program n rs)) ≤ 49088
text_short n rs A B low few = omega (arith, text_size n rs, rules_short n rs A B low, symbols_short n (omega arith))
