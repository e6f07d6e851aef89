-- Laws of functions that ask questions.
use Rattle.std.proofs.Common.{◌≡◌, ℕ, ◌<◌, cond, eqb, Ok, Err, refl, sym, ◌∙◌, ap, arith}
use Rattle.refusals.specs.declared.Refusal.{Refusal}
use Rattle.refusals.specs.declared.Refusal.TheVariants as refusal
use Rattle.refusals.specs.Numbers.{number}
use Rattle.refusals.specs.Asked.{Asked}

-- No refusal has the number 0.
pub number_positive : (e : Refusal) → 0 < number e
number_positive refusal.Version = omega arith
number_positive refusal.Length = omega arith
number_positive refusal.Limits = omega arith
number_positive refusal.Record = omega arith
number_positive refusal.Kind = omega arith
number_positive refusal.Atoms = omega arith
number_positive refusal.Component = omega arith
number_positive refusal.Sequence = omega arith
number_positive refusal.Chain = omega arith
number_positive refusal.Room = omega arith
number_positive refusal.Negated = omega arith
number_positive refusal.Number = omega arith
number_positive refusal.Fresh = omega arith
number_positive refusal.Found = omega arith
number_positive refusal.Large = omega arith
number_positive refusal.Long = omega arith

-- And none has a number above 16.
pub number_small : (e : Refusal) → number e < 17
number_small refusal.Version = omega arith
number_small refusal.Length = omega arith
number_small refusal.Limits = omega arith
number_small refusal.Record = omega arith
number_small refusal.Kind = omega arith
number_small refusal.Atoms = omega arith
number_small refusal.Component = omega arith
number_small refusal.Sequence = omega arith
number_small refusal.Chain = omega arith
number_small refusal.Room = omega arith
number_small refusal.Negated = omega arith
number_small refusal.Number = omega arith
number_small refusal.Fresh = omega arith
number_small refusal.Found = omega arith
number_small refusal.Large = omega arith
number_small refusal.Long = omega arith

-- No two refusals have one number.
abbrev numbered : ℕ → Refusal
numbered k =
    cond (eqb k 1) refusal.Version (
    cond (eqb k 2) refusal.Length (
    cond (eqb k 3) refusal.Limits (
    cond (eqb k 4) refusal.Record (
    cond (eqb k 5) refusal.Kind (
    cond (eqb k 6) refusal.Atoms (
    cond (eqb k 7) refusal.Component (
    cond (eqb k 8) refusal.Sequence (
    cond (eqb k 9) refusal.Chain (
    cond (eqb k 10) refusal.Room (
    cond (eqb k 11) refusal.Negated (
    cond (eqb k 12) refusal.Number (
    cond (eqb k 13) refusal.Fresh (
    cond (eqb k 14) refusal.Found (
    cond (eqb k 15) refusal.Large (
    refusal.Long)))))))))))))))

numbered_back : (e : Refusal) → numbered (number e) ≡ e
numbered_back refusal.Version = refl
numbered_back refusal.Length = refl
numbered_back refusal.Limits = refl
numbered_back refusal.Record = refl
numbered_back refusal.Kind = refl
numbered_back refusal.Atoms = refl
numbered_back refusal.Component = refl
numbered_back refusal.Sequence = refl
numbered_back refusal.Chain = refl
numbered_back refusal.Room = refl
numbered_back refusal.Negated = refl
numbered_back refusal.Number = refl
numbered_back refusal.Fresh = refl
numbered_back refusal.Found = refl
numbered_back refusal.Large = refl
numbered_back refusal.Long = refl

pub number_is : (e f : Refusal) → number e ≡ number f → e ≡ f
number_is e f same = sym (numbered_back e) ∙ (ap numbered same ∙ numbered_back f)

module _ {A : Type 0} (k : ℕ) (P : A → Type 0) where
  -- A value is answered where there is no refusal.
  pub asked_value : (a : A) → 0 ≡ k → P a → Asked k P (Ok a)
  asked_value a e p = record { says = e; value = p }

  -- A refusal.
  pub asked_refusal : (e : Refusal) → number e ≡ k → Asked k P (Err e)
  asked_refusal e f = record { says = f; value = tt }
