-- What the clause program prints ("Sheet A, entire" of document 01). How its input is divided, and the text, stand in `dimacs/specs/Text.antt`.
use Rattle.std.specs.Prelude.{cond, List, ◌≡◌, ℕ, ◌≤◌, eqb, ℤ, pos, length, take, replicate}
use Rattle.unfolding.specs.Faithful.{clauses_of, variables_of}
use Rattle.sheet.specs.Questions.{first_refusal}
use Rattle.sheet.specs.Sequence.{entries}
use Rattle.sheet.specs.Sheet.{program}
use Rattle.text.specs.Text.{refused_text}
use Rattle.dimacs.specs.Text.{sheet_of, sequence_of, dimacs_text}
use Rattle.operations.specs.Calls.{questions}
use Rattle.operations.specs.Calls as call
use Rattle.office.specs.Office.{office}

-- The words that are lent: 16,384.
unfoldable pub lent_words : List ℤ
lent_words = replicate 16384 (pos 0)

-- The first question whose answer is no, 0 where there is none.
unfoldable pub refusal : List ℕ → ℕ
refusal input = first_refusal (questions office (call.clauses (sheet_of input) (sequence_of input) lent_words))

-- The clauses as DIMACS CNF.
unfoldable pub clauses_text : List ℕ → List ℕ
clauses_text input =
    dimacs_text (variables_of (program (sheet_of input)) (entries (sequence_of input))) (clauses_of (program (sheet_of input)) (entries (sequence_of input)))

-- The text for an input: the clauses, or the line of the refusal.
unfoldable pub printed : List ℕ → List ℕ
printed input = cond (eqb (refusal input) 0) (clauses_text input) (refused_text (refusal input))

-- The first r bytes of the buffer are the text for the input.
pub record Prints (input buffer : List ℕ) (r : ℕ) : Type 0 where
  pub inside : r ≤ length buffer
  pub text : take r buffer ≡ printed input
