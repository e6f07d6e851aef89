-- The parts of the text: that they have room, and the loops over the symbol table and over the records.
use mathlib.Core.List.{List, ◌++◌, flat_map}
use mathlib.Core.Path.{◌≡◌, sym, ap, subst}
use Prim.Native.Nat.{ℕ, ◌+◌, ◌-◌, ◌≤◌, ◌<◌}
use native.Mathlib.Nat.{sub-zero}
use native.Mathlib.Omega.{arith}
use lib.ListN.{length}
use Rattle.lists.specs.Lists.{range}
use Rattle.tables.specs.declared.SheetRecord.{SheetRecord}
use Rattle.tables.specs.inner.Rows.{row_at}
use Rattle.writer.specs.inner.Wrote.{Wrote}
use Rattle.writer.proofs.Writing.{room_front, room_behind}
use Rattle.writer.proofs.Loops.{RangeLeft, range_start, range_turn, range_room, range_length, range_end}
use Rattle.text.specs.Text.{ascii, decimal}
use Rattle.lparse_format.specs.Program.{lparse_atom}
use Rattle.lparse_lines.specs.inner.Lines.{record_text, records_text, symbol_line, symbols_text, whole_text}

-- Where four parts have room, each has, behind those before it.
module _ (old xs ys zs ws : List ℕ) (at : ℕ) (room : at + length (xs ++ (ys ++ (zs ++ ws))) ≤ length old) (one : List ℕ) (a : ℕ) (U : Wrote old at xs one a) where
  behind_first : a + length (ys ++ (zs ++ ws)) ≤ length one
  behind_first = room_behind old one xs (ys ++ (zs ++ ws)) at a U room

  second : a + length ys ≤ length one
  second = room_front one ys (zs ++ ws) a behind_first

  module _ (two : List ℕ) (b : ℕ) (W : Wrote one a ys two b) where
    behind_second : b + length (zs ++ ws) ≤ length two
    behind_second = room_behind one two ys (zs ++ ws) a b W behind_first

    third : b + length zs ≤ length two
    third = room_front two zs ws b behind_second

    fourth : (three : List ℕ) (c : ℕ) → Wrote two b zs three c → c + length ws ≤ length three
    fourth three c X = room_behind two three zs ws b c X behind_second

-- The line of a symbol.
module _ (old : List ℕ) (at a : ℕ) (room : at + length (symbol_line a) ≤ length old) where
  parts : at + length (decimal (lparse_atom a) ++ (ascii " a" ++ (decimal a ++ ascii "\n"))) ≤ length old
  unfolding symbol_line
  parts = room

  pub symbol_first : at + length (decimal (lparse_atom a)) ≤ length old
  symbol_first = room_front old (decimal (lparse_atom a)) (ascii " a" ++ (decimal a ++ ascii "\n")) at parts

  module _ (one : List ℕ) (b : ℕ) (U : Wrote old at (decimal (lparse_atom a)) one b) where
    pub symbol_second : b + length (ascii " a") ≤ length one
    symbol_second = second old (decimal (lparse_atom a)) (ascii " a") (decimal a) (ascii "\n") at parts one b U

    module _ (two : List ℕ) (c : ℕ) (W : Wrote one b (ascii " a") two c) where
      pub symbol_third : c + length (decimal a) ≤ length two
      symbol_third = third old (decimal (lparse_atom a)) (ascii " a") (decimal a) (ascii "\n") at parts one b U two c W

      pub symbol_fourth : (three : List ℕ) (d : ℕ) → Wrote two c (decimal a) three d → d < length three
      symbol_fourth three d X =
          let l = fourth old (decimal (lparse_atom a)) (ascii " a") (decimal a) (ascii "\n") at parts one b U two c W three d X in omega arith

-- The whole.
module _ (n m : ℕ) (t old : List ℕ) (room : length (whole_text n m t) ≤ length old) where
  all_parts : 0 + length (records_text t m ++ (ascii "0\n" ++ (symbols_text n ++ ascii "0\nB+\n0\nB-\n1\n0\n1\n"))) ≤ length old
  unfolding whole_text
  all_parts = omega arith

  pub whole_first : length (records_text t m) ≤ length old
  whole_first = let l = room_front old (records_text t m) (ascii "0\n" ++ (symbols_text n ++ ascii "0\nB+\n0\nB-\n1\n0\n1\n")) 0 all_parts in omega arith

  module _ (one : List ℕ) (a : ℕ) (U : Wrote old 0 (records_text t m) one a) where
    pub whole_second : a + length (ascii "0\n") ≤ length one
    whole_second = second old (records_text t m) (ascii "0\n") (symbols_text n) (ascii "0\nB+\n0\nB-\n1\n0\n1\n") 0 all_parts one a U

    module _ (two : List ℕ) (b : ℕ) (W : Wrote one a (ascii "0\n") two b) where
      pub whole_third : b + length (symbols_text n) ≤ length two
      whole_third = third old (records_text t m) (ascii "0\n") (symbols_text n) (ascii "0\nB+\n0\nB-\n1\n0\n1\n") 0 all_parts one a U two b W

      pub whole_fourth : (three : List ℕ) (c : ℕ) → Wrote two b (symbols_text n) three c → c + length (ascii "0\nB+\n0\nB-\n1\n0\n1\n") ≤ length three
      whole_fourth three c X = fourth old (records_text t m) (ascii "0\n") (symbols_text n) (ascii "0\nB+\n0\nB-\n1\n0\n1\n") 0 all_parts one a U two b W three c X

-- The lines of the symbol table.
module _ (old : List ℕ) (at n : ℕ) where
  abbrev pub SymbolsLeft : List ℕ → ℕ → ℕ → Type 0
  SymbolsLeft = RangeLeft symbol_line old at 0 n

  symbols_are : flat_map symbol_line (range 0 (n - 0)) ≡ symbols_text n
  unfolding symbols_text
  symbols_are = ap (λ k. flat_map symbol_line (range 0 k)) (sub-zero n)

  module _ (cur : List ℕ) (next a : ℕ) (L : SymbolsLeft cur next a) where
    pub symbols_room : a < n → at + length (symbols_text n) ≤ length old → next + length (symbol_line a) ≤ length cur
    symbols_room l h = range_room symbol_line old at 0 n cur next a L l (subst (λ ws. at + length ws ≤ length old) (sym symbols_are) h)

    pub symbols_end : n ≤ a → Wrote old at (symbols_text n) cur next
    symbols_end l = subst (λ ws. Wrote old at ws cur next) symbols_are (range_end symbol_line old at 0 n cur next a L l)

-- The lines of the records.
module _ (t : List ℕ) (m : ℕ) where
  abbrev pub line_at : ℕ → List ℕ
  line_at j = record_text (row_at t j)

  module _ (old : List ℕ) where
    abbrev pub RecordsLeft : List ℕ → ℕ → ℕ → Type 0
    RecordsLeft = RangeLeft line_at old 0 0 m

    records_are : flat_map line_at (range 0 (m - 0)) ≡ records_text t m
    unfolding records_text
    records_are = ap (λ k. flat_map line_at (range 0 k)) (sub-zero m)

    module _ (cur : List ℕ) (next j : ℕ) (L : RecordsLeft cur next j) where
      module _ (l : j < m) (r : SheetRecord) (R : r ≡ row_at t j) where
        pub records_room : length (records_text t m) ≤ length old → next + length (record_text r) ≤ length cur
        records_room h = rw R (range_room line_at old 0 0 m cur next j L l (let e = ap length records_are in omega arith))

        pub records_turn : (new : List ℕ) (behind : ℕ) → Wrote cur next (record_text r) new behind → RecordsLeft new behind (j + 1)
        records_turn new behind W = range_turn line_at old 0 0 m cur next j L l new behind (rw R at W)

      pub records_length : length cur ≡ length old
      records_length = range_length line_at old 0 0 m cur next j L

      pub records_end : m ≤ j → Wrote old 0 (records_text t m) cur next
      records_end l = subst (λ ws. Wrote old 0 ws cur next) records_are (range_end line_at old 0 0 m cur next j L l)

    pub records_start : RecordsLeft old 0 0
    records_start = range_start line_at old 0 0 m
