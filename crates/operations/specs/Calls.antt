-- The calls of the operations. One description of a call says what it is given, asks, answers and writes; the rest is derived from it.
use Rattle.std.specs.Prelude.{List, [], ◌∷◌, ◌++◌, ◌≡◌, ℕ, ℤ, length, drop}
use Rattle.sheet.specs.Questions.{first_refusal}
use Rattle.sheet.specs.Format.{atoms_byte, records_byte}
use Rattle.sheet.specs.Sheet.{program}
use Rattle.sheet.specs.declared.Limits.{Limits}
use Rattle.operations.specs.Outcome.{Outcome, refused, answered, outcome}
use Rattle.operations.specs.Outputs.{components_output, default_output, lparse_output, missing_output, unfolded_output, clauses_output, clause_numbers, body_positives, count_values}
use Rattle.operations.specs.Questions.{question15, question8, question16, question9, question10, question11, question14, question_b, sheet_questions}

-- A call of one of the ten operations: s is the sheet, q the sequence, i a record's number, old the buffer that is lent for the output.
pub data Call : Type 0 where
  read : (s : List ℕ) → Call
  body : (i : ℕ) (s : List ℕ) → Call
  components : (s old : List ℕ) → Call
  default : (s old : List ℕ) → Call
  lparse : (s old : List ℕ) → Call
  test : (s q : List ℕ) → Call
  missing : (s q old : List ℕ) → Call
  unfolded : (s q old : List ℕ) → Call
  clauses : (s q : List ℕ) (old : List ℤ) → Call
  count : (s : List ℕ) → Call

-- What a call is given: a sheet, or a sheet and a sequence.
pub data Input : Type 0 where
  sheet : (s : List ℕ) → Input
  with_sequence : (s q : List ℕ) → Input

-- A buffer: none, one of bytes or unsigned words, or one of signed words.
pub data Buffer : Type 0 where
  nothing : Buffer
  naturals : List ℕ → Buffer
  integers : List ℤ → Buffer

-- What a call is given, asks behind the questions about that, and answers; the buffer that is lent, and the same with the output.
pub record Description : Type 0 where
  pub input : Input
  pub further : List ℕ
  pub values : List ℕ
  pub lent : Buffer
  pub written : Buffer

-- An output at a buffer's beginning, and behind it what the buffer held.
abbrev pub over : {A : Type 0} → List A → List A → List A
over output old = output ++ drop (length output) old

-- A call that writes nothing.
abbrev pub plain : Input → List ℕ → List ℕ → Description
plain input further values = record { input = input; further = further; values = values; lent = nothing; written = nothing }

-- A call that writes: question 10 comes last, and the length of the output is the first of the values.
abbrev pub writing : {A : Type 0} → (List A → Buffer) → Input → List ℕ → List A → List ℕ → List A → Description
writing buffer input further output more old =
    record {
      input = input;
      further = further ++ (question10 output (length old) ∷ []);
      values = length output ∷ more;
      lent = buffer old;
      written = buffer (over output old);
    }

-- The operations.
unfoldable pub describe : Call → Description
describe (read s) = plain (sheet s) [] (atoms_byte s ∷ records_byte s ∷ [])
describe (body i s) = plain (sheet s) (question_b i s ∷ []) (body_positives i s ∷ [])
describe (components s old) = writing naturals (sheet s) [] (components_output s) [] old
describe (default s old) = writing naturals (sheet s) [] (default_output s) [] old
describe (lparse s old) = writing naturals (sheet s) [] (lparse_output s) [] old
describe (test s q) = plain (with_sequence s q) (question9 s q ∷ []) []
describe (missing s q old) = writing naturals (with_sequence s q) (question14 s q ∷ []) (missing_output s q) [] old
describe (unfolded s q old) = writing naturals (with_sequence s q) (question9 s q ∷ []) (unfolded_output s q) [] old
describe (clauses s q old) = writing integers (with_sequence s q) (question9 s q ∷ []) (clauses_output s q) (clause_numbers s q) old
describe (count s) = plain (sheet s) (question11 s ∷ []) (count_values s)

-- The questions about what a call is given: those about the sheet, then 8 and 16 about the sequence.
unfoldable pub input_questions : Limits → Input → List ℕ
input_questions L (sheet s) = sheet_questions L s
input_questions L (with_sequence s q) = sheet_questions L s ++ (question8 L s q ∷ question16 L q ∷ [])

-- Those of them that are about the limits of the service alone.
unfoldable pub service_questions : Limits → Input → List ℕ
service_questions L (sheet s) = question15 L (program s) ∷ []
service_questions L (with_sequence s q) = question15 L (program s) ∷ question16 L q ∷ []

-- The questions that a call asks, in their order.
unfoldable pub questions : Limits → Call → List ℕ
questions L c = input_questions L (describe c).input ++ (describe c).further

-- The first no, or the values.
unfoldable pub outcome_of : Limits → Call → Outcome
outcome_of L c = outcome (first_refusal (questions L c)) (describe c).values

-- The buffer afterwards: on a refusal what was lent.
unfoldable pub left : Outcome → Description → Buffer
left (refused refusal) d = d.lent
left (answered values) d = d.written

-- What a service may answer to a call, and the buffer afterwards.
abbrev pub Service : Type 1
Service = Call → Outcome → Buffer → Type 0

-- What a service with these limits promises of a call, for every input.
pub record Promised (L : Limits) (c : Call) (o : Outcome) (b : Buffer) : Type 0 where
  pub says : o ≡ outcome_of L c
  pub leaves : b ≡ left (outcome_of L c) (describe c)
