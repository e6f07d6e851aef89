-- The text of the lparse format read back: what a reader of the text finds in it.
use Rattle.std.specs.Prelude.{Bool, true, false, ◌&&◌, cond, List, [], ◌∷◌, ◌++◌, map, ℕ, ◌+◌, ◌-◌, ◌*◌, eqb, take, drop}
use Rattle.asp.specs.Program.{Body}
use Rattle.text.specs.Text.{ascii}
use Rattle.lparse_format.specs.Program.{LparseRule, basic, choice, Symbol, LparseProgram}

-- The parts of a text that the byte ends, the bytes of the first so far being given.
unfoldable pub parts_at : ℕ → List ℕ → List ℕ → List (List ℕ)
parts_at end part [] = []
parts_at end part (b ∷ bs) = cond (eqb b end) (part ∷ parts_at end [] bs) (parts_at end (part ++ (b ∷ [])) bs)

-- The fields of a line: with a space behind the last, each ends at a space.
unfoldable pub fields_of : List ℕ → List (List ℕ)
fields_of l = parts_at 32 [] (l ++ ascii " ")

-- The lines of a text, each as its fields: each line ends at a byte 0A.
unfoldable pub lines_of : List ℕ → List (List (List ℕ))
lines_of text = map fields_of (parts_at 10 [] text)

-- The number that bytes stand for, taken for digits; those in front of them are given as a number.
unfoldable pub number_in : ℕ → List ℕ → ℕ
number_in n [] = n
number_in n (b ∷ bs) = number_in (n * 10 + (b - 48)) bs

-- The numbers of a line.
abbrev pub numbers_of : List (List ℕ) → List ℕ
numbers_of fields = map (number_in 0) fields

-- The first of some numbers.
unfoldable pub first_of : List ℕ → ℕ
first_of [] = 0
first_of (k ∷ ks) = k

-- The line ends a section of the text: its first number is 0.
unfoldable pub ends_section : List (List ℕ) → Bool
ends_section fields = eqb (first_of (numbers_of fields)) 0

-- The lines up to the one that ends the section.
unfoldable pub section_of : List (List (List ℕ)) → List (List (List ℕ))
section_of [] = []
section_of (l ∷ ls) = cond (ends_section l) [] (l ∷ section_of ls)

-- The lines behind it.
unfoldable pub behind_section : List (List (List ℕ)) → List (List (List ℕ))
behind_section [] = []
behind_section (l ∷ ls) = cond (ends_section l) ls (behind_section ls)

-- A body: the number of its literals, the number of negative ones, the negative atoms, the positive atoms.
unfoldable pub read_body : List ℕ → Body
read_body [] = record { pos = []; neg = [] }
read_body (l ∷ []) = record { pos = []; neg = [] }
read_body (l ∷ k ∷ atoms) = record { pos = take (l - k) (drop k atoms); neg = take k atoms }

-- A rule, by its type: type 3, a choice rule, has its heads behind their number; any other is read as type 1.
unfoldable pub read_rule : List ℕ → LparseRule
read_rule [] = basic 0 (read_body [])
read_rule (t ∷ []) = basic 0 (read_body [])
read_rule (t ∷ k ∷ ks) = cond (eqb t 3) (choice (take k ks) (read_body (drop k ks))) (basic k (read_body ks))

-- A symbol: the atom and its name.
unfoldable pub read_symbol : List (List ℕ) → Symbol
read_symbol [] = record { atom = 0; name = [] }
read_symbol (a ∷ []) = record { atom = number_in 0 a; name = [] }
read_symbol (a ∷ name ∷ fields) = record { atom = number_in 0 a; name = name }

-- A line of one number: an atom of B+ or B-, or the number of models.
unfoldable pub read_number : List (List ℕ) → ℕ
read_number fields = first_of (numbers_of fields)

-- The two texts are the same.
unfoldable pub same : List ℕ → List ℕ → Bool
same [] [] = true
same [] (c ∷ cs) = false
same (b ∷ bs) [] = false
same (b ∷ bs) (c ∷ cs) = eqb b c && same bs cs

-- The line is this label.
unfoldable pub is_label : List ℕ → List (List ℕ) → Bool
is_label label [] = false
is_label label (field ∷ []) = same label field
is_label label (field ∷ other ∷ fields) = false

-- The lines behind the label, none where another line stands in its place.
unfoldable pub behind_label : List ℕ → List (List (List ℕ)) → List (List (List ℕ))
behind_label label [] = []
behind_label label (l ∷ ls) = cond (is_label label l) ls []

-- The whole: the rules, the symbols, behind `B+` and behind `B-` the atoms of each, the number of models.
unfoldable pub read_lines : List (List (List ℕ)) → LparseProgram
read_lines lines =
    let from_symbols = behind_section lines in
    let from_plus = behind_label (ascii "B+") (behind_section from_symbols) in
    let from_minus = behind_label (ascii "B-") (behind_section from_plus) in
    record {
      rules = map (λ l. read_rule (numbers_of l)) (section_of lines);
      symbols = map read_symbol (section_of from_symbols);
      plus = map read_number (section_of from_plus);
      minus = map read_number (section_of from_minus);
      models = first_of (map read_number (behind_section from_minus));
    }

-- The program that a text stands for.
unfoldable pub read_lparse : List ℕ → LparseProgram
read_lparse text = read_lines (lines_of text)
