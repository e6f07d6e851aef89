-- What is proved of the format; `proofs/Claims.antt` has the proof of each.
use Rattle.std.specs.Prelude.{List, ◌≡◌, ℕ}
use Rattle.sheet.specs.Sheet.{Record, program_of}
use Rattle.sheet.specs.inner.Walk.{AllSound}
use Rattle.lparse_format.specs.Program.{lparse_program}
use Rattle.lparse_format.specs.Text.{lparse_text}
use Rattle.lparse_format.specs.Decoded.{read_lparse}
use Rattle.lparse_format.specs.Meaning.{SameModels}

-- The text of a sheet's program, read back, is that program.
abbrev pub LparseIsRead : Type 0
LparseIsRead = (n : ℕ) (rs : List Record) → read_lparse (lparse_text (lparse_program n rs)) ≡ lparse_program n rs

-- Its stable models, cut to the written atoms, are those of the records' program, each once.
abbrev pub ExportIsFaithful : Type 0
ExportIsFaithful = (n : ℕ) (rs : List Record) → AllSound n rs → SameModels n (program_of n rs) (lparse_program n rs)
