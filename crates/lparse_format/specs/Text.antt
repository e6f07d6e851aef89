-- The text of the lparse format: one space divides the fields of a line, and each line ends in byte 0A.
use mathlib.Core.List.{List, [], ◌∷◌, ◌++◌, flat_map}
use Rattle.std.specs.Prelude.{ℕ, ◌+◌, length}
use Rattle.asp.specs.Program.{Body}
use Rattle.text.specs.Text.{ascii, decimal}
use Rattle.lparse_format.specs.Program.{LparseRule, basic, choice, Symbol, LparseProgram}

-- A further field of a line: a space and a number.
unfoldable pub field_text : ℕ → List ℕ
field_text k = ascii " " ++ decimal k

-- A line of numbers.
unfoldable pub line : ℕ → List ℕ → List ℕ
line k ks = decimal k ++ flat_map field_text ks ++ ascii "\n"

-- A body: the number of its literals, the number of negative ones, the negative atoms, the positive atoms.
unfoldable pub body_numbers : Body → List ℕ
body_numbers b = (length b.neg + length b.pos) ∷ length b.neg ∷ (b.neg ++ b.pos)

-- A rule: its type, its head or its heads behind their number, its body.
unfoldable pub rule_text : LparseRule → List ℕ
rule_text (basic head b) = line 1 (head ∷ body_numbers b)
rule_text (choice heads b) = line 3 (length heads ∷ (heads ++ body_numbers b))

-- A symbol: the atom and its name.
unfoldable pub symbol_text : Symbol → List ℕ
symbol_text s = decimal s.atom ++ ascii " " ++ s.name ++ ascii "\n"

-- An atom of B+ or B-, on a line of its own.
unfoldable pub atom_text : ℕ → List ℕ
atom_text a = line a []

-- The whole: each part ends with a line 0, and the last line is the number of models.
unfoldable pub lparse_text : LparseProgram → List ℕ
lparse_text E =
    flat_map rule_text E.rules ++ ascii "0\n"
    ++ flat_map symbol_text E.symbols ++ ascii "0\n"
    ++ ascii "B+\n" ++ flat_map atom_text E.plus ++ ascii "0\n"
    ++ ascii "B-\n" ++ flat_map atom_text E.minus ++ ascii "0\n"
    ++ line E.models []
