-- The three demands of what C sees, for any limits.
use mathlib.Core.List.{List, ◌++◌}
use mathlib.Core.Path.{◌≡◌, refl, sym, ◌∙◌, ap, ap₂}
use Prim.Native.Nat.{ℕ}
use lib.Dec.{eqb}
use lib.ListN.{length, take}
use lib.Seq.{take-append_seam}
use Rattle.lists.proofs.Bools.{by_bool}
use Rattle.sheet.specs.declared.Limits.{Limits}
use Rattle.operations.specs.Outcome.{Outcome, outcome}
use Rattle.operations.specs.Calls.{Call, Buffer, describe, outcome_of, Promised}
use Rattle.operations.specs.Calls as call
use Rattle.operations.specs.inner.Refusals.{call_refusal}
use Rattle.guarantees.specs.Demands.{Demand1, Demand2, Demand3, TextForSolvers, MissingChains}
use Rattle.guarantees.specs.Services.{OneFormat, Narrower}
use Rattle.guarantees.specs.Lengthened.{LengthenedSequences}
use Rattle.guarantees.specs.Claims.{Shorter}
use Rattle.guarantees.proofs.Calls.{demand_1}
use Rattle.guarantees.proofs.Demands.{demand_2_of, demand_3_of, solvers_of, missing_chains_of}
use Rattle.guarantees.proofs.Services.{body_agree}
use Rattle.guarantees.proofs.Lengthened.{lengthened_of}
use Rattle.guarantees.proofs.Claims.{outputs_shorten}
use Rattle.interface.specs.Exported.{status, stored, Stores}
use Rattle.interface.specs.Seen.{place_numbers, told, Seen, NumbersKept, SameShown}

module _ (asked : ℕ) (vs more : List ℕ) (r : ℕ) (before after : List ℕ) (E : Stores (outcome asked (vs ++ more)) r before after) where
  -- The number returned and the first of the numbers stored tell the outcome.
  stores_front : outcome r (take (length vs) after) ≡ outcome asked vs
  unfolding outcome status stored
  stores_front =
      ap₂ (λ r after. outcome r (take (length vs) after)) E.returns E.numbers
      ∙ by_bool (eqb asked 0) (λ t. rw (t, take-append_seam vs more) refl) (λ f. rw f (rw f refl))

  stores_kept : (r ≡ 0 → ⊥) → after ≡ before
  unfolding outcome status stored
  stores_kept ne =
      by_bool (eqb asked 0) (λ t. absurd (ne (E.returns ∙ rw t refl))) (λ f. E.numbers ∙ rw f refl)

-- Each function's outcome and buffer are those of its operation.
seen_promised : (L : Limits) (c : Call) (o : Outcome) (b : Buffer) → Seen L c o b → Promised L c o b
unfolding Seen told outcome_of
seen_promised L c o b (r, before, after, R, e) =
    record { says = e ∙ stores_front (call_refusal L c) (describe c).values (place_numbers c) r before after R.stores; leaves = R.leaves }

-- The demands of the C interface.
pub seen_demand_1 : (L : Limits) → Demand1 L (Seen L)
seen_demand_1 L c o b S = demand_1 L c o b (seen_promised L c o b S)

pub seen_demand_2 : (L : Limits) → Demand2 L (Seen L)
seen_demand_2 L = demand_2_of L (Seen L) (seen_demand_1 L)

pub seen_demand_3 : (L : Limits) → Demand3 L (Seen L)
seen_demand_3 L = demand_3_of L (Seen L) (seen_demand_1 L)

-- What a solver reads of the text that C sees.
pub seen_text_for_solvers : (L : Limits) → TextForSolvers (Seen L)
seen_text_for_solvers L = solvers_of L (Seen L) (seen_demand_1 L)

-- What the missing chains that C sees are.
pub seen_missing_chains : (L : Limits) → MissingChains (Seen L)
seen_missing_chains L = missing_chains_of L (Seen L) (seen_demand_1 L)

-- What an author keeps who lengthens a sequence, as C sees it.
pub seen_lengthened_sequences : (L : Limits) → LengthenedSequences L (Seen L)
seen_lengthened_sequences L = lengthened_of L (Seen L) (seen_demand_1 L)

-- What C sees written is shortened.
pub seen_shorter : (L : Limits) → Shorter (Seen L)
seen_shorter L = outputs_shorten L (Seen L) (seen_demand_1 L)

pub numbers_kept : (L : Limits) → NumbersKept L
numbers_kept L c r before after b R = stores_kept (call_refusal L c) (describe c).values (place_numbers c) r before after R.stores

-- Bodies that C is shown.
pub same_shown : (L M : Limits) → OneFormat L M → Narrower L M → SameShown L M
same_shown L M F N i s r t before after later b d P Q ne =
    let same = sym (body_agree L M F N i s ne) in
    let numbers = (describe (call.body i s)).values ++ place_numbers (call.body i s) in (
      Q.stores.returns ∙ (ap (λ k. status (outcome k numbers)) same ∙ sym P.stores.returns),
      Q.stores.numbers ∙ (ap (λ k. stored (outcome k numbers) before) same ∙ sym P.stores.numbers),
    )
