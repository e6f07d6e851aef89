-- The input and the text of the clause program ("Sheet A, entire" and "Clauses" of document 01): where the input is divided, and DIMACS CNF.
use Rattle.std.specs.Prelude.{◌||◌, cond, ℕ, ltb, length, take, drop}
use mathlib.Core.List.{List, ◌++◌, flat_map}
use Rattle.unfolding.specs.Clauses.{Literal, positive, negative, Clause}
use Rattle.sheet.specs.Format.{length_field}
use Rattle.text.specs.Text.{ascii, decimal}

-- Where the sheet ends: the length field divides the input; under 3 bytes, or shorter than that length, all of it is the sheet.
unfoldable pub sheet_end : List ℕ → ℕ
sheet_end input = cond (ltb (length input) 3 || ltb (length input) (length_field input)) (length input) (length_field input)

-- The sheet of an input.
abbrev pub sheet_of : List ℕ → List ℕ
sheet_of input = take (sheet_end input) input

-- The sequence behind it.
abbrev pub sequence_of : List ℕ → List ℕ
sequence_of input = drop (sheet_end input) input

-- A literal: its variable, behind a minus sign where it is negative.
unfoldable pub literal_text : Literal → List ℕ
literal_text (positive v) = decimal v
literal_text (negative v) = ascii "-" ++ decimal v

-- A clause, one line: its literals, each with a space behind it, and 0.
unfoldable pub clause_text : Clause → List ℕ
clause_text c = flat_map (λ l. literal_text l ++ ascii " ") c ++ ascii "0\n"

-- The first line: `p cnf`, the number of variables, the number of clauses.
unfoldable pub header_text : ℕ → ℕ → List ℕ
header_text variables clauses = ascii "p cnf " ++ decimal variables ++ ascii " " ++ decimal clauses ++ ascii "\n"

-- DIMACS CNF: the first line, then one clause a line.
unfoldable pub dimacs_text : ℕ → List Clause → List ℕ
dimacs_text variables cs = header_text variables (length cs) ++ flat_map clause_text cs
