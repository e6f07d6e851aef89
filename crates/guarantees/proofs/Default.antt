-- What the default sequence writes is accepted by questions 8, 16 and 9.
use mathlib.Core.Bool.{true}
use mathlib.Core.List.{List}
use mathlib.Core.Path.{◌≡◌, refl}
use Prim.Native.Nat.{ℕ, ◌+◌, ◌*◌, ◌/◌, ◌%◌, ◌≤◌, ◌<◌}
use native.Mathlib.Nat.{mul-le-mul_left}
use native.Mathlib.Omega.{arith}
use borrow.Author.Tests.{eq-eqb, le-leb}
use lib.ListN.{length}
use Rattle.lists.proofs.Bools.{and_intro}
use Rattle.unfolding.specs.Chain.{passes}
use Rattle.unfolding.specs.Default.{default_sequence}
use Rattle.unfolding.proofs.Chains.{passes_iff}
use Rattle.unfolding.proofs.Default.{default_passes, default_below}
use Rattle.sheet.specs.Questions.{ask}
use Rattle.sheet.specs.Sheet.{program}
use Rattle.sheet.specs.Sequence.{entries_field, entries, sequence_fits}
use Rattle.sheet.specs.declared.Limits.{Limits}
use Rattle.sheet.proofs.Questions.{first_yes, yes_first}
use Rattle.choice.proofs.Sheets.{program_formed}
use Rattle.operations.specs.Outputs.{sequence_bytes, default_output}
use Rattle.operations.specs.Questions.{question16, sheet_questions}
use Rattle.operations.specs.Calls.{questions}
use Rattle.operations.specs.Calls as call
use Rattle.operations.specs.inner.Refusals.{sheet_refusal}
use Rattle.operations.proofs.Questions.{Passed, sheet_passed}
use Rattle.operations.proofs.Default.{default_length}
use Rattle.guarantees.specs.Demands.{DefaultAccepted}
use Rattle.guarantees.proofs.Accepting.{test_passes}

module _ (L : Limits) (s : List ℕ) (accepted : sheet_refusal L s ≡ 0) where
  passed : Passed L s
  passed = sheet_passed L s accepted

  module _ (enough : L.taken.component * L.taken.atoms ≤ L.taken.entries) (within : L.taken.entries ≤ L.entries) (two_bytes : L.entries < 65536) where
    few : length (default_sequence (program s)) ≤ L.taken.entries
    few =
        let a = default_length s L.taken.component passed.taken_components in
        let b = mul-le-mul_left L.taken.component passed.taken_atoms in
        omega arith

    eighth : sequence_fits L (program s).atoms (default_output s) ≡ true
    unfolding sequence_fits default_output sequence_bytes
    eighth =
        let t = length (default_sequence (program s)) in
        let k = few in
        let field : (t / 256 % 256) * 256 + t % 256 ≡ t = omega arith in
        let q = default_output s in
        and_intro
        (and_intro (and_intro (and_intro (le-leb 3 (length q) (omega arith)) refl) (le-leb (entries_field q) L.entries (omega arith)))
        (eq-eqb (length q) (3 + entries_field q) (omega arith)))
        (default_below (program s))

    sixteenth : question16 L (default_output s) ≡ 0
    unfolding ask default_output sequence_bytes
    sixteenth = rw (le-leb (length (default_sequence (program s))) L.taken.entries few) refl

    ninth : passes (program s) (entries (default_output s)) ≡ true
    unfolding default_output sequence_bytes
    ninth = (passes_iff (program s) (program_formed L s passed.form) (default_sequence (program s))).1 (default_passes (program s) (program_formed L s passed.form))

pub default_accepted : (L : Limits) → L.taken.component * L.taken.atoms ≤ L.taken.entries → L.taken.entries ≤ L.entries → L.entries < 65536 → DefaultAccepted L
unfolding ask
default_accepted L enough within two_bytes s yeses =
    let accepted = yes_first (sheet_questions L s) yeses in
    first_yes (questions L (call.test s (default_output s)))
    (test_passes L s (default_output s) accepted (rw (eighth L s accepted enough within two_bytes) refl) (sixteenth L s accepted enough within two_bytes)
    (rw (ninth L s accepted enough within two_bytes) refl))
