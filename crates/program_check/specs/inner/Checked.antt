-- What the questions about a sheet and a sequence promise: the refusal, and the table of the sheet's program where there is none.
use Rattle.std.specs.Prelude.{List, ◌≡◌, ℕ, ◌<◌, get_or, Result}
use Rattle.refusals.specs.declared.Refusal.{Refusal}
use Rattle.refusals.specs.Asked.{Asked}
use Rattle.sheet.specs.Sheet.{program}
use Rattle.sheet.specs.declared.Limits.{Limits}
use Rattle.program.specs.inner.Held.{ProgramTable, program_in, table_of}
use Rattle.program.specs.declared.ProgramSize.{ProgramSize}
use Rattle.copies.specs.inner.Ready.{Ready}
use Rattle.operations.specs.Calls as call
use Rattle.operations.specs.inner.Refusals.{call_refusal}

-- For each of the first n atoms the set of its name.
pub record NamedSets (n : ℕ) (names sets components : List ℕ) : Type 0 where
  pub is : (a : ℕ) → a < n → get_or components a 0 ≡ get_or sets (get_or names a 0) 0

-- The table of the program of a sheet that is not refused, with the sets of its components, and a sequence that is not refused.
pub record ProgramKept (s q components : List ℕ) (t : ProgramTable) : Type 0 where
  pub is : program_in t ≡ program s
  pub ready : Ready t components q

-- The questions about a sheet and a sequence, which are those of testing, and the sheet's program where there is no refusal.
abbrev pub ProgramChecked : Limits → List ℕ → List ℕ → List ℕ → List ℕ → List ℕ → Result ProgramSize Refusal → Type 0
ProgramChecked L s q components records program r = Asked (call_refusal L (call.test s q)) (λ size. ProgramKept s q components (table_of size records program)) r
