-- The text read back.
use mathlib.Core.List.{List, ◌∷◌}
use mathlib.Core.Path.{◌≡◌, refl, ◌∙◌, ap}
use Prim.Native.Nat.{ℕ}
use borrow.Author.Tests.{eq-eqb}
use lib.IntN.{pos}
use lib.ListN.{length, take, drop}
use Rattle.unfolding.specs.Clauses.{read_words, signed_words}
use Rattle.unfolding.specs.Faithful.{clauses_of, variables_of}
use Rattle.unfolding.specs.Claims.{Accepted}
use Rattle.unfolding.proofs.Claims.{literals_are_numbered, words_are_clauses}
use Rattle.sheet.specs.Format.{atoms_byte}
use Rattle.sheet.specs.Sequence.{entries}
use Rattle.sheet.specs.Sheet.{program}
use Rattle.choice.specs.Written.{WrittenFaithful}
use Rattle.dimacs.specs.Text.{sheet_of, sequence_of}
use Rattle.dimacs.specs.Decoded.{read_dimacs}
use Rattle.dimacs.proofs.Decoding.{text_is_read}
use Rattle.operations.specs.Questions.{question9}
use Rattle.operations.specs.Calls.{describe}
use Rattle.operations.specs.Calls as call
use Rattle.operations.specs.inner.Refusals.{call_refusal}
use Rattle.guarantees.proofs.Accepting.{input_passed, next_passed, test_passes, test_accepted, test_faithful}
use Rattle.office.specs.Office.{office}
use Rattle.clauses.specs.Printed.{lent_words, refusal, clauses_text, printed}
use Rattle.clauses.specs.Claims.{PrintedIsFaithful}

module _ (input : List ℕ) (z : refusal input ≡ 0) where
  -- Testing accepts what clauses are written of.
  tested : call_refusal office (call.test (sheet_of input) (sequence_of input)) ≡ 0
  unfolding refusal describe
  tested =
      let s = sheet_of input in
      let q = sequence_of input in
      let passed = next_passed office s q _ (question9 s q) (call.clauses s q lent_words) refl refl z in
      let given = input_passed office s q passed.0 in
      test_passes office s q given.0 given.1 given.2 passed.1

  accepted : Accepted (program (sheet_of input)) (entries (sequence_of input))
  accepted = test_accepted office (sheet_of input) (sequence_of input) tested

  read : read_dimacs (printed input)
      ≡ pos (variables_of (program (sheet_of input)) (entries (sequence_of input)))
      ∷ pos (length (clauses_of (program (sheet_of input)) (entries (sequence_of input)))) ∷ signed_words (clauses_of (program (sheet_of input)) (entries (sequence_of input)))
  unfolding printed clauses_text
  read = rw (eq-eqb (refusal input) 0 z) (text_is_read _ _ (λ c m l n. (literals_are_numbered _ _ accepted c m l n).0))

  faithful : WrittenFaithful (atoms_byte (sheet_of input)) (program (sheet_of input)) (entries (sequence_of input))
  faithful = test_faithful office (sheet_of input) (sequence_of input) tested

pub printed_is_faithful : PrintedIsFaithful
printed_is_faithful input z =
    record {
      numbers = ap (take 2) (read input z);
      clauses = ap (λ zs. read_words (drop 2 zs)) (read input z) ∙ words_are_clauses _ _ (accepted input z);
      faithful = faithful input z;
    }
