-- The refusals of the lists of questions: the first no of each.
use Rattle.std.specs.Prelude.{List, ℕ}
use Rattle.asp.specs.Program.{Program}
use Rattle.sheet.specs.Questions.{first_refusal}
use Rattle.sheet.specs.declared.Limits.{Limits}
use Rattle.operations.specs.Questions.{bytes_questions, graph_questions, sheet_questions}
use Rattle.operations.specs.Calls.{Call, Input, input_questions, questions}

-- Of the bytes and the records of a sheet.
abbrev pub bytes_refusal : Limits → List ℕ → ℕ
bytes_refusal L s = first_refusal (bytes_questions L s)

-- Of the graph of a program.
abbrev pub graph_refusal : Limits → Program → ℕ
graph_refusal L P = first_refusal (graph_questions L P)

-- Of a sheet.
abbrev pub sheet_refusal : Limits → List ℕ → ℕ
sheet_refusal L s = first_refusal (sheet_questions L s)

-- Of what a call is given.
abbrev pub input_refusal : Limits → Input → ℕ
input_refusal L input = first_refusal (input_questions L input)

-- Of a call.
abbrev pub call_refusal : Limits → Call → ℕ
call_refusal L c = first_refusal (questions L c)
