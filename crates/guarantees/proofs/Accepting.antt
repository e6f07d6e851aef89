-- What it means that testing accepts.
use mathlib.Core.Bool.{true}
use mathlib.Core.List.{List, [], ◌∷◌}
use mathlib.Core.Path.{◌≡◌, refl, sym, ◌∙◌, ap}
use Prim.Native.Nat.{ℕ}
use native.Mathlib.Omega.{arith}
use Rattle.asp.specs.Program.{well_formed}
use Rattle.unfolding.specs.Chain.{passes}
use Rattle.unfolding.specs.Claims.{Accepted}
use Rattle.unfolding.proofs.Chains.{passes_iff}
use Rattle.unfolding.proofs.Claims.{clauses_are_faithful}
use Rattle.sheet.specs.Questions.{◌then◌, first_refusal}
use Rattle.sheet.specs.Sequence.{entries, sequence_fits}
use Rattle.sheet.specs.Format.{atoms_byte}
use Rattle.sheet.specs.Sheet.{records, program}
use Rattle.sheet.specs.declared.Limits.{Limits}
use Rattle.sheet.proofs.Questions.{ask_passed, then_passed, then_zero}
use Rattle.sheet.proofs.Sequences.{fits_out}
use Rattle.sheet.proofs.Walk.{records_sound}
use Rattle.choice.specs.Written.{WrittenFaithful}
use Rattle.choice.proofs.Unique.{faithful_over_written}
use Rattle.choice.proofs.Sheets.{program_formed}
use Rattle.operations.specs.Questions.{question8, question16, question9}
use Rattle.operations.specs.Calls.{Call, with_sequence, describe}
use Rattle.operations.specs.Calls as call
use Rattle.operations.specs.inner.Refusals.{sheet_refusal, input_refusal, call_refusal}
use Rattle.operations.proofs.Questions.{sequence_parted, call_parted, sheet_passed}
use Rattle.operations.proofs.Promises.{further_asked}

-- A sheet that is not refused is a well-formed program.
pub program_accepted : (L : Limits) (s : List ℕ) → sheet_refusal L s ≡ 0 → well_formed (program s) ≡ true
program_accepted L s z = program_formed L s (sheet_passed L s z).form

-- A call that is not refused.
pub call_passed : (L : Limits) (c : Call) → call_refusal L c ≡ 0 → (input_refusal L (describe c).input ≡ 0) × (first_refusal (describe c).further ≡ 0)
call_passed L c z = then_passed (input_refusal L (describe c).input) (first_refusal (describe c).further) (sym (call_parted L c) ∙ z)

module _ (L : Limits) (s q : List ℕ) where
  -- A sheet and a sequence of which nothing is refused.
  pub input_passed : input_refusal L (with_sequence s q) ≡ 0 → (sheet_refusal L s ≡ 0) × (question8 L s q ≡ 0) × (question16 L q ≡ 0)
  input_passed z =
      let a = then_passed (sheet_refusal L s) (question8 L s q then question16 L q) (sym (sequence_parted L s q) ∙ z) in
      let b = then_passed (question8 L s q) (question16 L q) a.1 in
      (a.0, b.0, b.1)

  -- Testing asks one question more.
  pub test_passes : sheet_refusal L s ≡ 0 → question8 L s q ≡ 0 → question16 L q ≡ 0 → question9 s q ≡ 0 → call_refusal L (call.test s q) ≡ 0
  unfolding describe first_refusal
  test_passes sheet form size found =
      let far = sequence_parted L s q ∙ (then_zero (sheet_refusal L s) _ sheet ∙ (then_zero (question8 L s q) _ form ∙ size)) in
      further_asked L (call.test s q) far ∙ then_zero (question9 s q) 0 found

  -- What testing accepts is a well-formed program and a sequence of its atoms that has every chain.
  pub both_accepted : input_refusal L (with_sequence s q) ≡ 0 → question9 s q ≡ 0 → Accepted (program s) (entries q)
  both_accepted z n =
      let passed = input_passed z in
      let wf = program_accepted L s passed.0 in
      record {
        program = wf;
        entries = (fits_out L (program s).atoms q (ask_passed (sequence_fits L (program s).atoms q) 8 (λ e. omega arith) passed.1)).low;
        found = (passes_iff (program s) wf (entries q)).0 (ask_passed (passes (program s) (entries q)) 9 (λ e. omega arith) n);
      }

-- A call that is given a sheet and a sequence and is not refused: the first question behind those about them is passed too.
pub next_passed : (L : Limits) (s q rest : List ℕ) (k : ℕ) (c : Call) → (describe c).input ≡ with_sequence s q → (describe c).further ≡ k ∷ rest
    → call_refusal L c ≡ 0 → (input_refusal L (with_sequence s q) ≡ 0) × (k ≡ 0)
unfolding first_refusal
next_passed L s q rest k c given asked z =
    let passed = call_passed L c z in
    (rw given at passed.0, (then_passed k (first_refusal rest) (ap first_refusal (sym asked) ∙ passed.1)).0)

module _ (L : Limits) (s q : List ℕ) (z : call_refusal L (call.test s q) ≡ 0) where
  pub test_passed : (input_refusal L (with_sequence s q) ≡ 0) × (question9 s q ≡ 0)
  unfolding describe
  test_passed = next_passed L s q [] (question9 s q) (call.test s q) refl refl z

  pub test_accepted : Accepted (program s) (entries q)
  test_accepted = both_accepted L s q test_passed.0 test_passed.1

  -- Its clauses are faithful over the written atoms.
  pub test_faithful : WrittenFaithful (atoms_byte s) (program s) (entries q)
  unfolding program
  test_faithful =
      let sheet = (input_passed L s q test_passed.0).0 in
      faithful_over_written (atoms_byte s) (records s) (records_sound L s (sheet_passed L s sheet).form) (entries q) (clauses_are_faithful (program s) (entries q) test_accepted)
