-- What is proved of the text that the program `lparse` prints; `proofs/Claims.antt` has the proof of each.
use Rattle.std.specs.Prelude.{List, ◌≡◌, ℕ}
use Rattle.sheet.specs.Questions.{first_refusal}
use Rattle.lparse_format.specs.Decoded.{read_lparse}
use Rattle.operations.specs.Questions.{sheet_questions}
use Rattle.guarantees.specs.Demands.{SolverReads}
use Rattle.office.specs.Office.{office}
use Rattle.lparse.specs.Printed.{refusal, printed}

-- The text of a sheet always fits, so what is refused is what reading refuses: never by 10.
abbrev pub RoomIsEnough : Type 0
RoomIsEnough = (input : List ℕ) → refusal input ≡ first_refusal (sheet_questions office input)

-- A solver that reads the text finds the sheet's program, for every input that is not refused.
abbrev pub PrintedIsRead : Type 0
PrintedIsRead = (input : List ℕ) → refusal input ≡ 0 → SolverReads input (read_lparse (printed input))
