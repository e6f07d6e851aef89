-- How long the lines are: what the functions that add lengths up promise.
use mathlib.Core.Bool.{Bool, ◌&&◌}
use mathlib.Core.List.{List, ◌++◌, flat_map}
use mathlib.Core.Path.{◌≡◌, refl, sym, ◌∙◌, ap}
use Prim.Native.Nat.{ℕ, zero, suc, ◌+◌, ◌-◌, ◌*◌, ◌≤◌, ◌<◌}
use native.Mathlib.Nat.{sub-zero}
use native.Mathlib.Omega.{arith}
use borrow.Author.Tests.{ltb-true, ltb-false}
use lib.Dec.{ltb}
use lib.ListN.{length, length-append}
use Rattle.lists.specs.Lists.{filter, range}
use Rattle.lists.proofs.Bools.{by_bool}
use Rattle.lists.proofs.Members.{range_left, range_over}
use Rattle.bits.specs.inner.Sets.{has, Both, Size}
use Rattle.bits.specs.inner.Visited.{listed}
use Rattle.bits.proofs.Digits.{full_has}
use Rattle.text.specs.Text.{ascii, decimal}
use Rattle.text.specs.inner.Digits.{SmallLength}
use Rattle.lparse_format.specs.Program.{lparse_atom}
use Rattle.lparse_format.specs.Text.{field_text}
use Rattle.lparse_format.proofs.Longest.{field_size, atom_two, atom_three}
use Rattle.tables.specs.declared.SheetRecord.{SheetRecord}
use Rattle.tables.specs.inner.Rows.{row_at}
use Rattle.lparse_lines.specs.inner.Lines.{head_text, atoms_text, body_text, record_text, records_text, symbol_line, symbols_text, whole_text}
use Rattle.lparse_lines.proofs.Lines.{constraint_head, choice_head, rule_head, size_low, body_size}
use Rattle.lparse_sizes.specs.inner.Lengths.{AtomsLength, LineLength, TextLength}

-- The type and the head, by the kind.
module _ (kind head : ℕ) where
  pub constraint_length : kind ≡ 1 → LineLength (head_text kind head) 3
  constraint_length e = let f = ap length (constraint_head kind head e) in record { is = omega arith; small = omega arith }

  module _ (h r : ℕ) (same : h ≡ head) (D : SmallLength (h + 2) r) where
    pub choice_length : kind ≡ 2 → LineLength (head_text kind head) (4 + r)
    choice_length e =
        let f = ap length (choice_head kind head h same e) in
        let s = field_size (lparse_atom h) in
        record { is = omega arith; small = omega arith }

    pub rule_length : (kind ≡ 1 → ⊥) → (kind ≡ 2 → ⊥) → LineLength (head_text kind head) (2 + r)
    rule_length other ne =
        let f = ap length (rule_head kind head h same other ne) in
        let s = field_size (lparse_atom h) in
        record { is = omega arith; small = omega arith }

-- A set's atoms: 3 bytes each, but one less for each atom below 8.
module _ (x y : ℕ) (B : Both x 255 y) where
  abbrev atoms_of : ℕ → ℕ → List ℕ
  atoms_of a k = flat_map (λ a. field_text (lparse_atom a)) (filter (has x) (range a k))

  low_has : (a : ℕ) → has y a ≡ (has x a && ltb a 8)
  low_has a = B.members a ∙ ap (λ (q : Bool). has x a && q) (full_has 8 a)

  atoms_sum : (a k : ℕ) → a + k ≤ 64 → length (atoms_of a k) + length (filter (has y) (range a k)) ≡ 3 * length (filter (has x) (range a k))
  unfolding filter range flat_map
  atoms_sum a zero l = refl
  atoms_sum a (suc k) l =
      let e = atoms_sum (suc a) k (omega arith) in
      let f = length-append (field_text (lparse_atom a)) (atoms_of (suc a) k) in
      by_bool (has x a)
      (λ t. by_bool (ltb a 8) (λ u. rw (low_has a, t, u) (omega (arith, atom_two a (ltb-true a 8 u))))
      (λ u. rw (low_has a, t, u) (omega (arith, atom_three a (ltb-false a 8 u) (omega arith)))))
      (λ t. rw (low_has a, t) e)

-- A set of k atoms, s of them below 8.
module _ (x k : ℕ) (K : Size x k) where
  module _ (y s : ℕ) (B : Both x 255 y) (S : Size y s) where
    set_sum : length (atoms_text x) + s ≡ 3 * k
    unfolding atoms_text listed
    set_sum = omega (arith, atoms_sum x y B 0 64 (omega arith))

    pub atoms_enough : s ≤ 3 * k
    atoms_enough = omega (arith, set_sum)

    pub atoms_length : AtomsLength x (3 * k - s)
    atoms_length = record { is = omega (arith, set_sum); small = omega (arith, size_low x k K) }

-- A body.
module _ (pos neg k p r s u v : ℕ) where
  pub body_length : Size neg k → Size pos p → SmallLength (k + p) r → SmallLength k s → AtomsLength neg u → AtomsLength pos v
      → LineLength (body_text pos neg) (r + s + u + v + 3)
  body_length K P R S A B = record { is = omega (arith, body_size pos neg k p K P, field_size (k + p), field_size k); small = omega arith }

-- A line of the symbol table.
symbol_size : (a : ℕ) → length (symbol_line a) ≡ length (decimal (lparse_atom a)) + length (decimal a) + 3
unfolding symbol_line
symbol_size a =
    let e = length-append (decimal (lparse_atom a)) (ascii " a" ++ (decimal a ++ ascii "\n")) in
    let f = length-append (decimal a) (ascii "\n") in
    omega arith

pub symbol_length : (a r s : ℕ) → SmallLength (a + 2) r → SmallLength a s → LineLength (symbol_line a) (r + s + 3)
symbol_length a r s R S = let e = symbol_size a in record { is = omega arith; small = omega arith }

-- A loop adds up the lines of the numbers below n, none longer than 800 bytes.
module _ (f : ℕ → List ℕ) (n : ℕ) where
  abbrev lines_from : ℕ → List ℕ
  lines_from j = flat_map f (range j (n - j))

  -- t is the length of the lines before j.
  pub record Adding (t j : ℕ) : Type 0 where
    pub far : j ≤ n
    pub low : t ≤ j * 800
    pub sum : t + length (lines_from j) ≡ length (flat_map f (range 0 n))

  adding_start : Adding 0 0
  adding_start = let e = ap (λ k. length (flat_map f (range 0 k))) (sub-zero n) in record { far = omega arith; low = omega arith; sum = omega arith }

  module _ (t j : ℕ) (A : Adding t j) where
    adding_turn : j < n → (r : ℕ) → r ≡ length (f j) → r ≤ 800 → Adding (t + r) (j + 1)
    unfolding flat_map
    adding_turn l r e h =
        let s = ap (λ is. length (flat_map f is)) (range_left j n l) ∙ length-append (f j) (lines_from (j + 1)) in
        record { far = omega arith; low = omega arith; sum = omega arith }

    adding_end : n ≤ j → n ≤ 128 → TextLength (flat_map f (range 0 n)) t
    unfolding flat_map
    adding_end l h = let e = ap (λ is. length (flat_map f is)) (range_over j n l) in record { is = omega arith; small = omega arith }

-- The records.
module _ (t : List ℕ) (m : ℕ) where
  abbrev pub RecordsAdding : ℕ → ℕ → Type 0
  RecordsAdding = Adding (λ j. record_text (row_at t j)) m

  pub add_records_start : RecordsAdding 0 0
  add_records_start = adding_start _ m

  module _ (n j : ℕ) (A : RecordsAdding n j) where
    pub add_records_turn : (r : SheetRecord) (h b : ℕ) → r ≡ row_at t j → j < m → LineLength (head_text r.kind r.head) h → LineLength (body_text r.pos r.neg) b → RecordsAdding (n + (h + b)) (j + 1)
    unfolding record_text
    add_records_turn r h b R l H B =
        let e = ap (λ x. length (record_text x)) (sym R) ∙ length-append (head_text r.kind r.head) (body_text r.pos r.neg) in
        adding_turn _ m n j A l (h + b) (omega arith) (omega arith)

    pub add_records_end : m ≤ j → m ≤ 128 → TextLength (records_text t m) n
    unfolding records_text
    add_records_end l h = adding_end _ m n j A l h

-- The symbol table.
module _ (n : ℕ) where
  pub add_symbols_start : Adding symbol_line n 0 0
  add_symbols_start = adding_start symbol_line n

  module _ (t a : ℕ) (A : Adding symbol_line n t a) where
    pub add_symbols_turn : (r : ℕ) → a < n → LineLength (symbol_line a) r → Adding symbol_line n (t + r) (a + 1)
    add_symbols_turn r l L = adding_turn symbol_line n t a A l r L.is (omega arith)

    pub add_symbols_end : n ≤ a → n ≤ 64 → TextLength (symbols_text n) t
    unfolding symbols_text
    add_symbols_end l h = adding_end symbol_line n t a A l (omega arith)

-- The whole.
whole_size : (n m : ℕ) (t : List ℕ) → length (whole_text n m t) ≡ length (records_text t m) + length (symbols_text n) + 18
unfolding whole_text
whole_size n m t =
    let s = symbols_text n ++ ascii "0\nB+\n0\nB-\n1\n0\n1\n" in
    let e = length-append (records_text t m) (ascii "0\n" ++ s) in
    let f = length-append (symbols_text n) (ascii "0\nB+\n0\nB-\n1\n0\n1\n") in
    omega arith

pub whole_length : (n m : ℕ) (t : List ℕ) (r s : ℕ) → TextLength (records_text t m) r → TextLength (symbols_text n) s
    → r + s + 18 ≡ length (whole_text n m t)
whole_length n m t r s R S = omega (arith, whole_size n m t)
