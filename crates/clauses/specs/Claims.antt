-- What is proved of the text that the clause program prints; `proofs/Claims.antt` has the proof.
use Rattle.std.specs.Prelude.{List, [], ◌∷◌, ◌≡◌, ℕ, pos, length, take, drop}
use Rattle.unfolding.specs.Clauses.{read_words}
use Rattle.unfolding.specs.Faithful.{clauses_of, variables_of}
use Rattle.sheet.specs.Format.{atoms_byte}
use Rattle.sheet.specs.Sequence.{entries}
use Rattle.sheet.specs.Sheet.{program}
use Rattle.choice.specs.Written.{WrittenFaithful}
use Rattle.dimacs.specs.Text.{sheet_of, sequence_of}
use Rattle.dimacs.specs.Decoded.{read_dimacs}
use Rattle.clauses.specs.Printed.{refusal, printed}

-- A reader of the text finds the numbers of variables and of clauses and, split at 0, the clauses, and these are faithful over the written atoms
-- (demand 3).
pub record ReadBack (input : List ℕ) : Type 0 where
  pub numbers : take 2 (read_dimacs (printed input))
      ≡ pos (variables_of (program (sheet_of input)) (entries (sequence_of input)))
      ∷ pos (length (clauses_of (program (sheet_of input)) (entries (sequence_of input)))) ∷ []
  pub clauses : read_words (drop 2 (read_dimacs (printed input))) ≡ clauses_of (program (sheet_of input)) (entries (sequence_of input))
  pub faithful : WrittenFaithful (atoms_byte (sheet_of input)) (program (sheet_of input)) (entries (sequence_of input))

-- So it is for every input that is not refused.
abbrev pub PrintedIsFaithful : Type 0
PrintedIsFaithful = (input : List ℕ) → refusal input ≡ 0 → ReadBack input
