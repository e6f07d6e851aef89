-- The text that is written is the text of the records' program.
use mathlib.Core.List.{List, ◌∷◌, ◌++◌, map, flat_map, append_assoc}
use mathlib.Core.Path.{◌≡◌, sym, ◌∙◌, ap}
use Prim.Native.Nat.{ℕ}
use lib.Dec.{eqb}
use lib.ListN.{length-map}
use Rattle.lists.specs.Lists.{range}
use Rattle.lists.proofs.Bools.{by_bool}
use Rattle.lists.proofs.Members.{flat_map_append, flat_map_cong}
use Rattle.bits.specs.inner.Visited.{listed}
use Rattle.writer.proofs.Loops.{flat_map_map}
use Rattle.text.specs.Text.{ascii, digits, decimal}
use Rattle.tables.specs.declared.SheetRecord.{SheetRecord}
use Rattle.tables.specs.inner.Rows.{row_at}
use Rattle.reader.specs.inner.Tabled.{record_of, records_at}
use Rattle.lparse_format.specs.Program.{lparse_atom, lparse_body, lparse_rule, symbol, lparse_program}
use Rattle.lparse_format.specs.Text.{field_text, line, body_numbers, rule_text, symbol_text, atom_text, lparse_text}
use Rattle.lparse_lines.specs.inner.Lines.{head_text, atoms_text, literals_text, body_text, record_text, records_text, symbol_line, symbols_text, whole_text}

line_is : (k : ℕ) (ks : List ℕ) → line k ks ≡ decimal k ++ (flat_map field_text ks ++ ascii "\n")
unfolding line
line_is k ks = append_assoc (decimal k) (flat_map field_text ks) (ascii "\n")

-- A line whose body has the text b.
module _ (ks b : List ℕ) (e : flat_map field_text ks ++ ascii "\n" ≡ b) where
  fields_line : (h : ℕ) → flat_map field_text (h ∷ ks) ++ ascii "\n" ≡ field_text h ++ b
  unfolding flat_map
  fields_line h = append_assoc (field_text h) (flat_map field_text ks) (ascii "\n") ∙ ap (λ t. field_text h ++ t) e

  constraint_line : line 1 (1 ∷ ks) ≡ ascii "1 1" ++ b
  unfolding field_text decimal digits
  constraint_line = line_is 1 (1 ∷ ks) ∙ ap (λ t. ascii "1" ++ t) (fields_line 1)

  rule_line : (h : ℕ) → line 1 (h ∷ ks) ≡ ascii "1" ++ field_text h ++ b
  unfolding decimal digits
  rule_line h = line_is 1 (h ∷ ks) ∙ ap (λ t. ascii "1" ++ t) (fields_line h)

  choice_line : (h : ℕ) → line 3 (1 ∷ h ∷ ks) ≡ ascii "3 1" ++ field_text h ++ b
  unfolding flat_map field_text decimal digits
  choice_line h = line_is 3 (1 ∷ h ∷ ks) ∙ ap (λ t. ascii "3 1" ++ t) (fields_line h)

-- A body of two sets.
body_text_lem : (pos neg : ℕ) → flat_map field_text (body_numbers (lparse_body (record { pos = listed pos; neg = listed neg }))) ++ ascii "\n" ≡ body_text pos neg
unfolding body_numbers lparse_body body_text literals_text atoms_text flat_map
body_text_lem pos neg =
    rw (
      length-map (listed neg) lparse_atom,
      length-map (listed pos) lparse_atom,
      flat_map_append field_text (map lparse_atom (listed neg)) (map lparse_atom (listed pos)),
      flat_map_map field_text lparse_atom (listed neg),
      flat_map_map field_text lparse_atom (listed pos),
    )
    (simp append_assoc)

-- A record, as a table holds it.
record_is : (r : SheetRecord) → rule_text (lparse_rule (record_of r)) ≡ record_text r
unfolding record_of lparse_rule rule_text record_text head_text
record_is r =
    let ks = body_numbers (lparse_body (record { pos = listed r.pos; neg = listed r.neg })) in
    let b = body_text r.pos r.neg in
    let e = body_text_lem r.pos r.neg in
    by_bool (eqb r.kind 1) (λ t. rw t (constraint_line ks b e))
    (λ f. by_bool (eqb r.kind 2) (λ t. rw (f, t) (choice_line ks b e (lparse_atom r.head)))
    (λ g. rw (f, g) (rule_line ks b e (lparse_atom r.head))))

records_text_lem : (t : List ℕ) (m : ℕ) → flat_map rule_text (map lparse_rule (records_at t 0 m)) ≡ records_text t m
unfolding records_at records_text
records_text_lem t m =
    flat_map_map rule_text lparse_rule (records_at t 0 m)
    ∙ (flat_map_map (λ r. rule_text (lparse_rule r)) (λ i. record_of (row_at t i)) (range 0 m)
    ∙ flat_map_cong _ (λ i. record_text (row_at t i)) (range 0 m) (λ i _. record_is (row_at t i)))

symbols_text_lem : (n : ℕ) → flat_map symbol_text (map symbol (range 0 n)) ≡ symbols_text n
unfolding symbols_text symbol_line symbol_text symbol
symbols_text_lem n = flat_map_map symbol_text symbol (range 0 n) ∙ flat_map_cong _ symbol_line (range 0 n) (λ a _. simp append_assoc)

pub whole_is : (n m : ℕ) (t : List ℕ) → whole_text n m t ≡ lparse_text (lparse_program n (records_at t 0 m))
unfolding whole_text lparse_text lparse_program flat_map atom_text line decimal digits
whole_is n m t =
    sym (rw (records_text_lem t m, symbols_text_lem n) (simp append_assoc))
