-- Laws of writing clauses.
use mathlib.Core.List.{List, [], ◌∷◌}
use mathlib.Core.Path.{◌≡◌, refl, sym, ◌∙◌, ap, ap₂, subst}
use Prim.Native.Nat.{ℕ, ◌≤◌, ◌<◌}
use native.Mathlib.Omega.{arith}
use lib.IntN.{ℤ}
use lib.ListN.{length}
use Rattle.unfolding.specs.Unfolded.{unfolded}
use Rattle.unfolding.specs.Clauses.{clauses, variables, signed_words}
use Rattle.unfolding.specs.Faithful.{clauses_of, variables_of}
use Rattle.std.proofs.Common.{Ok, Err}
use Rattle.refusals.specs.declared.Refusal.{Refusal}
use Rattle.refusals.specs.Numbers.{number}
use Rattle.sheet.specs.Questions.{◌then◌, first_refusal}
use Rattle.sheet.specs.Sequence.{entries}
use Rattle.sheet.specs.declared.Limits.{Limits}
use Rattle.program.specs.inner.Held.{ProgramTable, table_of}
use Rattle.program.specs.declared.ProgramSize.{ProgramSize}
use Rattle.writer.specs.inner.Wrote.{Wrote}
use Rattle.copies.specs.inner.Ready.{unfolded_in}
use Rattle.clause_sizes.specs.inner.Numbers.{NumbersOf}
use Rattle.clause_sizes.specs.declared.Numbers.{Numbers}
use Rattle.operations.specs.Outcome.{refused, answered}
use Rattle.operations.specs.Outputs.{clauses_output, clause_numbers}
use Rattle.operations.specs.Questions.{question9}
use Rattle.operations.specs.Calls.{with_sequence, integers, describe, Promised}
use Rattle.operations.specs.Calls as call
use Rattle.operations.specs.inner.Refusals.{input_refusal}
use Rattle.operations.proofs.Writing.{room_refused, room_full, room_done}
use Rattle.program_check.specs.inner.Checked.{ProgramChecked}
use Rattle.program_check.proofs.Programs.{program_asked}

module _ (L : Limits) (s q components records program : List ℕ) where
  pub clauses_refused : (old : List ℤ) (e : Refusal) → ProgramChecked L s q components records program (Err e)
      → Promised L (call.clauses s q old) (refused (number e)) (integers old)
  unfolding describe
  clauses_refused old e A =
      room_refused L (call.clauses s q old) integers (with_sequence s q) (question9 s q ∷ []) (clauses_output s q) (clause_numbers s q) old refl e
      (program_asked L s q components records program (Err e) A)

module _ (L : Limits) (s q components records program : List ℕ) (size : ProgramSize) (A : ProgramChecked L s q components records program (Ok size)) where
  abbrev t : ProgramTable
  t = table_of size records program

  passed : input_refusal L (with_sequence s q) then first_refusal (question9 s q ∷ []) ≡ 0
  passed = sym (program_asked L s q components records program (Ok size) A)

  -- The clauses of the table's program, and their numbers, are those of the sheet's.
  derived : signed_words (clauses (unfolded_in t q)) ≡ clauses_output s q
  unfolding clauses_output clauses_of unfolded_in
  derived = ap (λ P. signed_words (clauses (unfolded P (entries q)))) A.value.is

  numbers : variables (unfolded_in t q) ∷ length (clauses (unfolded_in t q)) ∷ [] ≡ clause_numbers s q
  unfolding clause_numbers clauses_of variables_of unfolded_in
  numbers = ap (λ P. variables (unfolded P (entries q)) ∷ length (clauses (unfolded P (entries q))) ∷ []) A.value.is

  module _ (k : Numbers) (N : NumbersOf (unfolded_in t q) k) where
    pub clauses_full : (old : List ℤ) → length old < k.words → Promised L (call.clauses s q old) (refused 10) (integers old)
    unfolding describe
    clauses_full old l =
        room_full L (call.clauses s q old) integers (with_sequence s q) (question9 s q ∷ []) (clauses_output s q) (clause_numbers s q) old refl passed (let f = N.words ∙ ap length derived in omega arith)

    pub clauses_done : (old new : List ℤ) (next : ℕ) → k.words ≤ length old
        → Wrote old 0 (signed_words (clauses (unfolded_in t q))) new next
        → Promised L (call.clauses s q old) (answered (next ∷ k.variables ∷ k.clauses ∷ [])) (integers new)
    unfolding describe
    clauses_done old new next l W =
        let values : k.variables ∷ k.clauses ∷ [] ≡ clause_numbers s q = ap₂ (λ (v c : ℕ). v ∷ c ∷ []) N.variables N.clauses ∙ numbers in
        subst (λ vs. Promised L (call.clauses s q old) (answered (next ∷ vs)) (integers new)) (sym values)
        (room_done L (call.clauses s q old) integers (with_sequence s q) (question9 s q ∷ []) (clauses_output s q) (clause_numbers s q) old refl passed new next (let f = N.words ∙ ap length derived in omega arith)
        (subst (λ ws. Wrote old 0 ws new next) derived W))
