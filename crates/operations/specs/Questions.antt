-- The questions ("The questions" of document 01): each is 0 for a yes and its number for a no. 1 to 6 stand in `sheet/specs/Format.antt`.
use Rattle.std.specs.Prelude.{not, ◌&&◌, List, [], ◌∷◌, ◌++◌, ℕ, ◌+◌, leb, ltb, length}
use Rattle.asp.specs.Program.{Program}
use Rattle.unfolding.specs.Chain.{passes}
use Rattle.sheet.specs.Questions.{ask}
use Rattle.sheet.specs.Format.{atoms_byte, records_byte, form_questions}
use Rattle.sheet.specs.Sequence.{sequence_fits, entries}
use Rattle.sheet.specs.Sheet.{records, choices, program}
use Rattle.sheet.specs.declared.Limits.{Limits}
use Rattle.components.specs.Limit.{components_fit}
use Rattle.counting.specs.DecisionAtoms.{decision_atoms}

-- 13: the written atoms and the fresh ones, one for each choice rule, are within the limit.
abbrev pub question13 : Limits → List ℕ → ℕ
question13 L s = ask (leb (atoms_byte s + choices (records s)) L.atoms) 13

-- 7: no component has more atoms than the limit.
abbrev pub question7 : Limits → Program → ℕ
question7 L P = ask (components_fit L.component P) 7

-- 15: the service takes so many atoms, written and fresh, and so large components.
abbrev pub question15 : Limits → Program → ℕ
question15 L P = ask (leb P.atoms L.taken.atoms && components_fit L.taken.component P) 15

-- 8: the sequence is well-formed, its entries being atoms of the program, written or fresh.
abbrev pub question8 : Limits → List ℕ → List ℕ → ℕ
question8 L s q = ask (sequence_fits L (program s).atoms q) 8

-- 16: the service takes so many entries.
abbrev pub question16 : Limits → List ℕ → ℕ
question16 L q = ask (leb (length (entries q)) L.taken.entries) 16

-- 9: every chain is found in it.
abbrev pub question9 : List ℕ → List ℕ → ℕ
question9 s q = ask (passes (program s) (entries q)) 9

-- 10: the whole output fits the room.
abbrev pub question10 : {A : Type 0} → List A → ℕ → ℕ
question10 output room = ask (leb (length output) room) 10

-- 11: at most 16 atoms stand in the negative list of a rule or a choice rule, or are the head of a choice rule.
abbrev pub question11 : List ℕ → ℕ
question11 s = ask (leb (length (decision_atoms (atoms_byte s) (records s))) 16) 11

-- 14: some chain is not found in the sequence.
abbrev pub question14 : List ℕ → List ℕ → ℕ
question14 s q = ask (not (passes (program s) (entries q))) 14

-- B: the record's number is below the number of records.
abbrev pub question_b : ℕ → List ℕ → ℕ
question_b i s = ask (ltb i (records_byte s)) 12

-- The questions about the bytes and the records of a sheet: 1 to 6, then 13.
unfoldable pub bytes_questions : Limits → List ℕ → List ℕ
bytes_questions L s = form_questions L s ++ (question13 L s ∷ [])

-- The questions about the graph of a program: 7, then 15.
unfoldable pub graph_questions : Limits → Program → List ℕ
graph_questions L P = question7 L P ∷ question15 L P ∷ []

-- The questions about a sheet.
unfoldable pub sheet_questions : Limits → List ℕ → List ℕ
sheet_questions L s = bytes_questions L s ++ graph_questions L (program s)
