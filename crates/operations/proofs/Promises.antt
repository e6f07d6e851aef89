-- Laws of outcomes and of promises: a refusal, and a success.
use mathlib.Core.Bool.{false}
use mathlib.Core.List.{List}
use mathlib.Core.Path.{◌≡◌, refl, sym, ◌∙◌, ap}
use Prim.Native.Nat.{ℕ}
use native.Mathlib.Omega.{arith}
use borrow.Author.Tests.{eq-eqb, eqb-true, ne_eqb}
use lib.Dec.{eqb}
use Rattle.lists.proofs.Bools.{by_bool}
use Rattle.refusals.specs.declared.Refusal.{Refusal}
use Rattle.refusals.specs.Numbers.{number}
use Rattle.refusals.proofs.Asking.{number_positive}
use Rattle.sheet.specs.Questions.{first_refusal}
use Rattle.sheet.specs.declared.Limits.{Limits}
use Rattle.sheet.proofs.Questions.{then_zero}
use Rattle.operations.specs.Outcome.{refused, answered, outcome}
use Rattle.operations.specs.Calls.{Call, Buffer, describe, outcome_of, left, Promised}
use Rattle.operations.specs.inner.Refusals.{input_refusal, call_refusal}
use Rattle.operations.proofs.Questions.{call_parted}

pub outcome_refused : (refusal r : ℕ) (values : List ℕ) → r ≡ refusal → (r ≡ 0 → ⊥) → refused r ≡ outcome refusal values
unfolding outcome
outcome_refused refusal r values e ne = ap refused e ∙ sym (rw (ne_eqb refusal 0 (λ z. ne (e ∙ z))) refl)

pub outcome_answered : (refusal : ℕ) (values : List ℕ) → refusal ≡ 0 → answered values ≡ outcome refusal values
unfolding outcome
outcome_answered refusal values z = sym (rw (eq-eqb refusal 0 z) refl)

-- What an outcome that is known says of its questions and values.
module _ (refusal : ℕ) (values : List ℕ) where
  pub refused_is : (k : ℕ) → refused k ≡ outcome refusal values → (k ≡ refusal) × (eqb refusal 0 ≡ false)
  unfolding outcome
  refused_is k P =
      by_bool (eqb refusal 0)
      (λ t. let bad : refused k ≡ answered values = rw t at P in let z : ◌≡◌ {A = ℕ} 0 1 = cc bad in absurd (omega arith))
      (λ f. let same : refused k ≡ refused refusal = rw f at P in (cc same, f))

  pub answered_is : (vs : List ℕ) → answered vs ≡ outcome refusal values → (refusal ≡ 0) × (vs ≡ values)
  unfolding outcome
  answered_is vs P =
      by_bool (eqb refusal 0)
      (λ t. let same : answered vs ≡ answered values = rw t at P in (eqb-true refusal 0 t, cc same))
      (λ f. let bad : answered vs ≡ refused refusal = rw f at P in let z : ◌≡◌ {A = ℕ} 0 1 = cc bad in absurd (omega arith))

-- A refusal leaves the buffer as it was, and a success has the output in it.
module _ (L : Limits) (c : Call) where
  pub promised_number_refused : (r : ℕ) → r ≡ call_refusal L c → (r ≡ 0 → ⊥) → Promised L c (refused r) (describe c).lent
  unfolding outcome_of left
  promised_number_refused r e ne =
      let says = outcome_refused (call_refusal L c) r (describe c).values e ne in
      record { says = says; leaves = ap (λ o. left o (describe c)) says }

  pub promised_refused : (r : Refusal) → number r ≡ call_refusal L c → Promised L c (refused (number r)) (describe c).lent
  promised_refused r e = promised_number_refused (number r) e (λ z. let p = number_positive r in omega arith)

  pub promised_answered : call_refusal L c ≡ 0 → Promised L c (answered (describe c).values) (describe c).written
  unfolding outcome_of left
  promised_answered z =
      let says = outcome_answered (call_refusal L c) (describe c).values z in
      record { says = says; leaves = ap (λ o. left o (describe c)) says }

  -- Where nothing that the call is given is refused, what it asks behind that decides.
  pub further_asked : input_refusal L (describe c).input ≡ 0 → call_refusal L c ≡ first_refusal (describe c).further
  further_asked z = call_parted L c ∙ then_zero (input_refusal L (describe c).input) _ z

-- What a promise says of the questions, and where it is a success of the values and the buffer.
module _ (L : Limits) (c : Call) (b : Buffer) where
  pub promised_number : (k : ℕ) → Promised L c (refused k) b → (k ≡ call_refusal L c) × (eqb (call_refusal L c) 0 ≡ false)
  unfolding outcome_of
  promised_number k P = refused_is (call_refusal L c) (describe c).values k P.says

  module _ (values : List ℕ) (P : Promised L c (answered values) b) where
    known : (call_refusal L c ≡ 0) × (values ≡ (describe c).values)
    unfolding outcome_of
    known = answered_is (call_refusal L c) (describe c).values values P.says

    pub promised_passed : call_refusal L c ≡ 0
    promised_passed = known.0

    pub promised_values : answered values ≡ answered (describe c).values
    promised_values = ap answered known.1

    pub promised_written : b ≡ (describe c).written
    unfolding left outcome_of
    promised_written = P.leaves ∙ ap (λ o. left o (describe c)) (sym (outcome_answered (call_refusal L c) (describe c).values known.0))
