-- Laws of the gates.
use mathlib.Core.Bool.{Bool, ◌&&◌, ◌||◌, and_comm}
use mathlib.Core.List.{List}
use mathlib.Core.Path.{◌≡◌, ◌∙◌, ap, subst}
use Prim.Native.Nat.{ℕ, ◌+◌, ◌≤◌, ◌<◌}
use native.Mathlib.Omega.{arith}
use borrow.Author.Tests.{eqb-true, eqb-false}
use lib.Dec.{eqb}
use lib.ListN.{length, set, length-set, replicate, length-replicate}
use lib.Seq.{get_or-set_same, get_or-set_other}
use Rattle.lists.proofs.Bools.{by_bool}
use Rattle.bits.specs.inner.Sets.{WithIf}
use Rattle.bits.proofs.Digits.{zero_has}
use Rattle.tables.specs.inner.Rows.{row_at}
use Rattle.tables.specs.declared.SheetRecord.{SheetRecord}
use Rattle.counting.specs.inner.Gates.{GateOf, GatesOf}

-- One gate.
gate_is : (kind head r : ℕ) → WithIf 0 head (eqb kind 2) r → GateOf kind head r
gate_is kind head r W =
    record { members = λ b. W.members b ∙ (ap (λ (z : Bool). z || eqb b head && eqb kind 2) (zero_has b) ∙ and_comm (eqb b head) (eqb kind 2)) }

-- The gates of the first j rules are stored.
pub record Gating (t : List ℕ) (k j : ℕ) (gates : List ℕ) : Type 0 where
  pub long : length gates ≡ 128
  pub within : j ≤ k
  pub done : GatesOf t j gates

module _ (t : List ℕ) (k : ℕ) where
  pub gating_start : Gating t k 0 (replicate 128 0)
  gating_start = record { long = length-replicate {A = ℕ} 128 0; within = omega arith; done = record { gate = λ i l. absurd (omega arith) } }

  pub gating_turn : (j : ℕ) (gates : List ℕ) (r : SheetRecord) (h g : ℕ) → Gating t k j gates → j < k → k ≤ 128 → r ≡ row_at t j
      → h ≡ r.head → WithIf 0 h (eqb r.kind 2) g → Gating t k (j + 1) (set gates j g)
  gating_turn j gates r h g G l few same H W =
      let n = G.long in
      let here : GateOf (row_at t j).kind (row_at t j).head g = rw (H, same) at (gate_is r.kind h g W) in
      record {
        long = length-set gates j g ∙ n;
        within = omega arith;
        done = record {
          gate = λ i s. by_bool (eqb i j)
              (λ q. let e = eqb-true i j q in rw e (rw (get_or-set_same gates j g 0 (omega arith)) here))
              (λ q. let ne = eqb-false i j q in rw (get_or-set_other gates j i g 0 ne) (G.done.gate i (omega arith)));
        };
      }

  pub gating_end : (j : ℕ) (gates : List ℕ) → Gating t k j gates → k ≤ j → GatesOf t k gates
  gating_end j gates G l = let w = G.within in let e : j ≡ k = omega arith in subst (λ i. GatesOf t i gates) e G.done
