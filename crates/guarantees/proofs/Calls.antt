-- Demand 1: every call is decided by the first no of its questions.
use mathlib.Core.Path.{◌≡◌, refl, sym, ◌∙◌, ap}
use Prim.Native.Nat.{ℕ}
use native.Mathlib.Omega.{arith}
use borrow.Author.Tests.{eqb-true, eqb-false}
use lib.Dec.{eqb}
use Rattle.lists.proofs.Bools.{by_bool}
use Rattle.sheet.specs.declared.Limits.{Limits}
use Rattle.sheet.proofs.Questions.{first_yes, yes_first, first_no, no_first}
use Rattle.operations.specs.Outcome.{Outcome, refused, answered}
use Rattle.operations.specs.Calls.{Call, Buffer, describe, questions, outcome_of, left, Service, Promised}
use Rattle.operations.specs.inner.Refusals.{call_refusal}
use Rattle.operations.proofs.Promises.{outcome_refused, outcome_answered, promised_number_refused, promised_answered}
use Rattle.guarantees.specs.Demands.{Decided, refuses, answers, Demand1}

module _ (L : Limits) (c : Call) (o : Outcome) (b : Buffer) where
  -- What is promised, where the questions pass and where they do not.
  module _ (P : Promised L c o b) where
    pub passed_answered : call_refusal L c ≡ 0 → o ≡ answered (describe c).values
    unfolding outcome_of
    passed_answered z = P.says ∙ sym (outcome_answered (call_refusal L c) (describe c).values z)

    pub refused_so : (k : ℕ) → call_refusal L c ≡ k → (k ≡ 0 → ⊥) → o ≡ refused k
    unfolding outcome_of
    refused_so k e ne = P.says ∙ sym (outcome_refused (call_refusal L c) k (describe c).values (sym e) ne)

    leaves_so : b ≡ left o (describe c)
    leaves_so = P.leaves ∙ ap (λ o. left o (describe c)) (sym P.says)

    promised_decided : Decided L c o b
    unfolding left
    promised_decided =
        let k = call_refusal L c in
        by_bool (eqb k 0)
        (λ t.
        let z = eqb-true k 0 t in
        let same = passed_answered z in
        answers (first_yes (questions L c) z) same (leaves_so ∙ ap (λ o. left o (describe c)) same))
        (λ f.
        let ne = eqb-false k 0 f in
        let same = refused_so k refl ne in
        refuses k (first_no (questions L c) k refl ne) same (leaves_so ∙ ap (λ o. left o (describe c)) same))

  -- What is decided so is promised.
  decided_promised : Decided L c o b → Promised L c o b
  decided_promised (refuses k F e m) =
      let P = promised_number_refused L c k (sym (no_first (questions L c) k F)) (λ z. let p = F.nonzero in omega arith) in
      record { says = e ∙ P.says; leaves = m ∙ P.leaves }
  decided_promised (answers y e m) =
      let P = promised_answered L c (yes_first (questions L c) y) in
      record { says = e ∙ P.says; leaves = m ∙ P.leaves }

-- So a service that meets demand 1 keeps the promises.
pub kept : (L : Limits) (S : Service) → Demand1 L S → (c : Call) (o : Outcome) (b : Buffer) → S c o b → Promised L c o b
kept L S D c o b A = decided_promised L c o b (D c o b A)

-- Demand 1.
pub demand_1 : (L : Limits) → Demand1 L (Promised L)
demand_1 L c o b P = promised_decided L c o b P
