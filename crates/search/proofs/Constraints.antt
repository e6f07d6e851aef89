-- Laws of the constraints.
use mathlib.Core.Bool.{Bool, true, false, not}
use mathlib.Core.List.{List}
use mathlib.Core.Path.{◌≡◌, refl, sym, ◌∙◌, subst}
use Prim.Native.Nat.{ℕ, ◌+◌, ◌^◌, ◌≤◌, ◌<◌}
use native.Mathlib.Omega.{arith}
use borrow.Author.Tests.{eqb-true, eqb-false}
use lib.Dec.{eqb}
use Rattle.lists.proofs.Bools.{by_bool, is_false, true_false, not_intro, not_elim}
use Rattle.lists.proofs.Members.{all_at, all_intro}
use Rattle.asp.specs.Program.{Body, holds}
use Rattle.bits.specs.inner.Sets.{has, Subset, Both}
use Rattle.tables.specs.inner.Rows.{row_at}
use Rattle.tables.specs.declared.SheetRecord.{SheetRecord}
use Rattle.search.specs.inner.Rules.{BodyAt, BodyHolds, Lawful}
use Rattle.search.specs.declared.Sizes.{Sizes}
use Rattle.search.proofs.Firing.{subset_all, apart_outside}

module _ (x pos neg : ℕ) where
  pub body_fits : (b : Bool) (y : ℕ) → Subset pos x b → b ≡ true → y < 2 ^ 64 → Both neg x y → BodyHolds x pos neg (eqb y 0)
  unfolding holds
  body_fits b y S t l B =
      record { is = λ d M. apart_outside neg x y d.neg l M.negatives B ∙ sym (rw (sym (subset_all pos x d.pos b M.positives S) ∙ t) refl) }

  pub body_lacks : (b : Bool) → Subset pos x b → b ≡ false → BodyHolds x pos neg b
  unfolding holds
  body_lacks b S f = record { is = λ d M. f ∙ sym (rw (sym (subset_all pos x d.pos b M.positives S) ∙ f) refl) }

-- None of the constraints from k on, before j, is violated.
pub record Obeying (t : List ℕ) (x k j : ℕ) : Type 0 where
  pub far : k ≤ j
  pub so_far : (i : ℕ) → k ≤ i → i < j → (d : Body) → BodyAt t d i → holds (has x) d ≡ false

module _ (t : List ℕ) (x : ℕ) where
  pub obeying_start : (k : ℕ) → Obeying t x k k
  obeying_start k = record { far = omega arith; so_far = λ i l h. absurd (omega arith) }

  pub obeying_turn : (k j : ℕ) (R : SheetRecord) (b : Bool) → Obeying t x k j → R ≡ row_at t j → BodyHolds x R.pos R.neg b → b ≡ false → Obeying t x k (j + 1)
  obeying_turn k j R b O same B f =
      record {
        far = let l = O.far in omega arith;
        so_far = λ i l h d M. by_bool (eqb i j) (λ q. sym (B.is d (rw same (subst (BodyAt t d) (eqb-true i j q) M))) ∙ f)
            (λ q. let ne = eqb-false i j q in O.so_far i l (omega arith) d M);
      }

  pub obeying_violated : (s : Sizes) (j : ℕ) (R : SheetRecord) (b : Bool) → Obeying t x s.rules j → j < s.rules + s.constraints → R ≡ row_at t j
      → BodyHolds x R.pos R.neg b → b ≡ true → Lawful t s x false
  obeying_violated s j R b O l same B e =
      record {
        is = λ cs H. let m = H.sound j O.far l in
            sym (is_false (λ h. true_false (sym (B.is m.0 (rw same m.2)) ∙ e) (not_elim (all_at (λ b. not (holds (has x) b)) cs h m.0 m.1))));
      }

  pub obeying_end : (s : Sizes) (j : ℕ) → Obeying t x s.rules j → s.rules + s.constraints ≤ j → Lawful t s x true
  obeying_end s j O l =
      record {
        is = λ cs H. sym (all_intro (λ b. not (holds (has x) b)) cs (λ d n. let m = H.complete d n in let h = m.2 in not_intro (O.so_far m.0 m.1 (omega arith) d m.3)));
      }
