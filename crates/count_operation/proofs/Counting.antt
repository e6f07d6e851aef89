-- Laws of the count.
use mathlib.Core.List.{List, [], ◌∷◌}
use mathlib.Core.Path.{◌≡◌, refl, sym, ◌∙◌, ap, subst}
use Prim.Native.Nat.{ℕ, ◌≤◌}
use native.Mathlib.Omega.{arith}
use borrow.Author.Tests.{le-leb, lt-leb}
use lib.ListN.{length}
use Rattle.asp.specs.Count.{count, verdict}
use Rattle.std.proofs.Common.{Ok, Err}
use Rattle.refusals.specs.declared.Refusal.{Refusal}
use Rattle.refusals.specs.declared.Refusal.TheVariants as refusal
use Rattle.refusals.specs.Numbers.{number}
use Rattle.refusals.proofs.Asking.{number_positive}
use Rattle.sheet.specs.Questions.{ask, ◌then◌, first_refusal}
use Rattle.sheet.specs.Format.{atoms_byte}
use Rattle.sheet.specs.inner.Walk.{AllSound}
use Rattle.sheet.specs.Sheet.{records, program_of, program}
use Rattle.sheet.specs.declared.Limits.{Limits}
use Rattle.sheet.proofs.Questions.{then_refused, then_zero, then_none}
use Rattle.sheet.proofs.Walk.{formed, records_sound}
use Rattle.reader.specs.inner.Tabled.{records_at, ExactSets}
use Rattle.count_preparation.specs.inner.Asked.{Countable}
use Rattle.counting.specs.DecisionAtoms.{decision_atoms}
use Rattle.counting.specs.inner.RecordsCounted.{Crowded, Exact}
use Rattle.counting.proofs.Deciding.{heads_written}
use Rattle.operations.specs.Outcome.{refused, answered}
use Rattle.operations.specs.Verdicts.{code, from_verdict}
use Rattle.operations.specs.Outputs.{count_values}
use Rattle.operations.specs.Questions.{question11}
use Rattle.operations.specs.Calls.{nothing, describe, input_questions, Promised}
use Rattle.operations.specs.Calls as call
use Rattle.operations.specs.Requirements.{Supported}
use Rattle.operations.specs.declared.Verdict as declared
use Rattle.operations.specs.inner.Refusals.{sheet_refusal, call_refusal}
use Rattle.operations.proofs.Questions.{call_parted}
use Rattle.operations.proofs.Promises.{promised_refused, promised_answered}
use Rattle.sheet_check.specs.inner.Checked.{SheetAccepted, RecordsChecked}
use Rattle.sheet_check.specs.declared.SheetNumbers.{SheetNumbers}

module _ (L : Limits) (s : List ℕ) where
  asked : call_refusal L (call.count s) ≡ sheet_refusal L s then question11 s
  unfolding describe input_questions first_refusal
  asked = call_parted L (call.count s) ∙ ap (λ r. sheet_refusal L s then r) (then_none (question11 s))

  pub count_refused : (t es cs ss : List ℕ) (e : Refusal) → RecordsChecked L s t es cs ss (Err e) → Promised L (call.count s) (refused (number e)) nothing
  unfolding describe
  count_refused t es cs ss e A =
      let p = number_positive e in
      let says = A.says in
      promised_refused L (call.count s) e (says ∙ sym (asked ∙ then_refused (sheet_refusal L s) _ (λ z. omega arith)))

module _ (L : Limits) (s : List ℕ) (S : Supported L) (t es cs ss : List ℕ) (r : SheetNumbers) (A : RecordsChecked L s t es cs ss (Ok r)) where
  K : SheetAccepted L s cs ss r
  K = A.value.sheet.accepted

  same : records_at t 0 r.records ≡ records s
  same = A.value.kept.list

  sound : AllSound (atoms_byte s) (records_at t 0 r.records)
  sound = rw same (records_sound L s K.bytes.form)

  low : atoms_byte s ≤ 64
  low = let f = (formed L s K.bytes.form).atoms in let l = S.atoms in omega arith

  -- What the count asks for: heads of records that are no constraints are atoms.
  pub count_ready : Countable r.records t
  count_ready =
      let f = (formed L s K.bytes.form).count in
      let l = S.records in
      let n = K.bytes.number in
      record { few = omega arith; low = λ j h ne. let a = low in let b = heads_written r.records t (atoms_byte s) sound j h ne in omega arith }

  pub count_long : length t ≡ 384
  count_long = A.value.kept.long

  pub count_exact : ExactSets r.records t
  count_exact = A.value.kept.exact

  eleventh : call_refusal L (call.count s) ≡ question11 s
  eleventh = asked L s ∙ then_zero (sheet_refusal L s) _ (sym A.says)

  pub count_crowded : Crowded r.records t → Promised L (call.count s) (refused 11) nothing
  unfolding ask describe
  count_crowded T =
      let l = rw same at (T.many (atoms_byte s) low sound) in
      promised_refused L (call.count s) refusal.Negated (sym (eleventh ∙ rw (lt-leb (length (decision_atoms (atoms_byte s) (records s))) 16 l) refl))

  module _ (k : ℕ) (T : Exact r.records t k) where
    exact : k ≡ count (program s)
    unfolding program
    exact = T.counted.is (atoms_byte s) low sound ∙ ap (λ rs. count (program_of (atoms_byte s) rs)) same

    pub count_answered : (v : declared.Verdict) → from_verdict v ≡ verdict k
        → Promised L (call.count s) (answered (k ∷ code (from_verdict v) ∷ [])) nothing
    unfolding ask describe
    count_answered v w =
        let l = rw same at (T.few (atoms_byte s) low sound) in
        let values : count_values s ≡ k ∷ code (from_verdict v) ∷ [] =
        sym (ap (λ x. k ∷ code x ∷ []) w ∙ ap (λ k. k ∷ code (verdict k) ∷ []) exact)
        in
        subst (λ vs. Promised L (call.count s) (answered vs) nothing) values
        (promised_answered L (call.count s) (eleventh ∙ rw (le-leb (length (decision_atoms (atoms_byte s) (records s))) 16 l) refl))
