-- What the program `lparse` prints.
use Rattle.std.specs.Prelude.{cond, List, ◌≡◌, ℕ, ◌≤◌, eqb, length, take, replicate}
use Rattle.sheet.specs.Questions.{first_refusal}
use Rattle.text.specs.Text.{refused_text}
use Rattle.operations.specs.Outputs.{lparse_output}
use Rattle.operations.specs.Calls.{questions}
use Rattle.operations.specs.Calls as call
use Rattle.office.specs.Office.{office}

-- The bytes that are lent: 65,536.
unfoldable pub lent_bytes : List ℕ
lent_bytes = replicate 65536 0

-- The first question whose answer is no, 0 where there is none.
unfoldable pub refusal : List ℕ → ℕ
refusal input = first_refusal (questions office (call.lparse input lent_bytes))

-- The text for an input: that of the sheet, or the line of the refusal.
unfoldable pub printed : List ℕ → List ℕ
printed input = cond (eqb (refusal input) 0) (lparse_output input) (refused_text (refusal input))

-- The first r bytes of the buffer are the text for the input.
pub record Prints (input buffer : List ℕ) (r : ℕ) : Type 0 where
  pub inside : r ≤ length buffer
  pub text : take r buffer ≡ printed input
