-- The lines of the text, from records as a table holds them.
use Rattle.std.specs.Prelude.{cond, ℕ, ◌+◌, eqb, length}
use mathlib.Core.List.{List, ◌++◌, flat_map}
use Rattle.lists.specs.Lists.{range}
use Rattle.bits.specs.inner.Visited.{listed}
use Rattle.text.specs.Text.{ascii, decimal}
use Rattle.tables.specs.declared.SheetRecord.{SheetRecord}
use Rattle.tables.specs.inner.Rows.{row_at}
use Rattle.lparse_format.specs.Program.{lparse_atom}
use Rattle.lparse_format.specs.Text.{field_text}

-- The type and the head, or the heads, of a record's rule.
unfoldable pub head_text : ℕ → ℕ → List ℕ
head_text kind head = cond (eqb kind 1) (ascii "1 1") (cond (eqb kind 2) (ascii "3 1" ++ field_text (lparse_atom head)) (ascii "1" ++ field_text (lparse_atom head)))

-- The atoms of a set.
unfoldable pub atoms_text : ℕ → List ℕ
atoms_text x = flat_map (λ a. field_text (lparse_atom a)) (listed x)

-- The atoms of a body, the negative ones first, with the line's end.
unfoldable pub literals_text : ℕ → ℕ → List ℕ
literals_text pos neg = atoms_text neg ++ (atoms_text pos ++ ascii "\n")

-- A body of two sets, with the line's end.
unfoldable pub body_text : ℕ → ℕ → List ℕ
body_text pos neg = field_text (length (listed neg) + length (listed pos)) ++ (field_text (length (listed neg)) ++ literals_text pos neg)

-- A record.
unfoldable pub record_text : SheetRecord → List ℕ
record_text r = head_text r.kind r.head ++ body_text r.pos r.neg

-- The first m records of a table.
unfoldable pub records_text : List ℕ → ℕ → List ℕ
records_text t m = flat_map (λ j. record_text (row_at t j)) (range 0 m)

-- An atom's line of the symbol table.
unfoldable pub symbol_line : ℕ → List ℕ
symbol_line a = decimal (lparse_atom a) ++ (ascii " a" ++ (decimal a ++ ascii "\n"))

-- The symbol table of n atoms.
unfoldable pub symbols_text : ℕ → List ℕ
symbols_text n = flat_map symbol_line (range 0 n)

-- The whole text.
unfoldable pub whole_text : ℕ → ℕ → List ℕ → List ℕ
whole_text n m t = records_text t m ++ (ascii "0\n" ++ (symbols_text n ++ ascii "0\nB+\n0\nB-\n1\n0\n1\n"))
