-- The outputs of the operations.
use Rattle.std.specs.Prelude.{List, [], ◌∷◌, ◌++◌, map, ℕ, zero, suc, ◌+◌, ◌/◌, ◌%◌, ℤ, length}
use Rattle.lists.specs.Lists.{range}
use Rattle.asp.specs.Count.{count, verdict}
use Rattle.unfolding.specs.Graph.{component}
use Rattle.unfolding.specs.Missing.{missing_chain}
use Rattle.unfolding.specs.Default.{default_sequence}
use Rattle.unfolding.specs.Unfolded.{words, unfolded}
use Rattle.unfolding.specs.Clauses.{signed_words}
use Rattle.unfolding.specs.Faithful.{clauses_of, variables_of}
use Rattle.sheet.specs.Format.{atoms_byte, positives, end, part}
use Rattle.sheet.specs.Sequence.{entries}
use Rattle.sheet.specs.Sheet.{records, program}
use Rattle.lparse_format.specs.Program.{lparse_program}
use Rattle.lparse_format.specs.Text.{lparse_text}
use Rattle.operations.specs.Verdicts.{code}

-- Components: for each atom, written or fresh, the smallest atom of its component.
unfoldable pub components_output : List ℕ → List ℕ
components_output s = map (component (program s)) (range 0 (program s).atoms)

-- A sequence's header: version 1, the number of entries in two bytes, big-endian.
abbrev pub sequence_header : ℕ → List ℕ
sequence_header t = 1 ∷ t / 256 % 256 ∷ t % 256 ∷ []

-- A sequence's bytes.
unfoldable pub sequence_bytes : List ℕ → List ℕ
sequence_bytes l = sequence_header (length l) ++ l

-- The default sequence.
unfoldable pub default_output : List ℕ → List ℕ
default_output s = sequence_bytes (default_sequence (program s))

-- The lparse text of a sheet: its records and its written atoms, no fresh ones. Each list of atoms rises, by question 6.
unfoldable pub lparse_output : List ℕ → List ℕ
lparse_output s = lparse_text (lparse_program (atoms_byte s) (records s))

-- The shortest chain that is not found in a sequence: one byte for each of its atoms.
unfoldable pub missing_output : List ℕ → List ℕ → List ℕ
missing_output s q = missing_chain (program s) (entries q)

-- The unfolded program of a sheet and a sequence.
unfoldable pub unfolded_output : List ℕ → List ℕ → List ℕ
unfolded_output s q = words (unfolded (program s) (entries q))

-- Its clauses.
unfoldable pub clauses_output : List ℕ → List ℕ → List ℤ
clauses_output s q = signed_words (clauses_of (program s) (entries q))

-- The numbers of variables and of clauses.
unfoldable pub clause_numbers : List ℕ → List ℕ → List ℕ
clause_numbers s q = variables_of (program s) (entries q) ∷ length (clauses_of (program s) (entries q)) ∷ []

-- Where the record stands that is i records behind `at`.
unfoldable pub offset : ℕ → List ℕ → ℕ → ℕ
offset zero s at = at
offset (suc i) s at = offset i s (end s at)

-- Where record i stands.
unfoldable pub place : ℕ → List ℕ → ℕ
place i s = offset i s 5

-- Where its body starts: at its first positive atom.
abbrev pub body_start : ℕ → List ℕ → ℕ
body_start i s = place i s + 4

-- Where its body ends: behind its last negative atom.
abbrev pub body_end : ℕ → List ℕ → ℕ
body_end i s = end s (place i s)

-- Its number of positive atoms.
abbrev pub body_positives : ℕ → List ℕ → ℕ
body_positives i s = positives s (place i s)

-- Its body: a slice of the sheet.
unfoldable pub slice : ℕ → List ℕ → List ℕ
slice i s = part (body_start i s) (body_end i s) s

-- The number of stable models, and the verdict as a number.
abbrev pub count_values : List ℕ → List ℕ
count_values s = count (program s) ∷ code (verdict (count (program s))) ∷ []
