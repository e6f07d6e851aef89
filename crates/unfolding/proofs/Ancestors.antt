-- How many atoms reach an atom: equal inside a component, and more behind an edge between components.
use mathlib.Core.Bool.{true, false}
use mathlib.Core.List.{Memᴰ}
use mathlib.Core.Path.{◌≡◌}
use Prim.Native.Nat.{ℕ, ◌≤◌, ◌<◌}
use native.Mathlib.Nat.{le_antisymm}
use native.Mathlib.Omega.{arith}
use lib.ListN.{length}
use Rattle.lists.specs.Lists.{filter, range}
use Rattle.lists.proofs.Bools.{true_false, is_false}
use Rattle.lists.proofs.Members.{range_in, range_out}
use Rattle.lists.proofs.Nodup.{nodup_range, filter_le, filter_lt}
use Rattle.asp.specs.Program.{Program, well_formed}
use Rattle.unfolding.specs.Graph.{edge, reach, same_component}
use Rattle.unfolding.proofs.Reach.{edge_below, reach_refl, reach_edge, reach_trans, same_sym, same_there, same_in}

pub ancestors : Program → ℕ → ℕ
ancestors P a = length (filter (λ b. reach P b a) (range 0 P.atoms))

module _ (P : Program) (wf : well_formed P ≡ true) where
  pub in_range : (b : ℕ) → Memᴰ b (range 0 P.atoms) → b < P.atoms
  in_range b m = let r = range_out 0 P.atoms b m in omega (arith, r.high)

  fewer : (a b : ℕ) → reach P a b ≡ true → ancestors P a ≤ ancestors P b
  unfolding ancestors
  fewer a b r =
      filter_le (λ c. reach P c a) (λ c. reach P c b) (range 0 P.atoms) (nodup_range 0 P.atoms) (λ c m q. reach_trans P wf c a b (in_range c m) q r)

  pub ancestors_same : (a b : ℕ) → a < P.atoms → same_component P a b ≡ true → ancestors P a ≡ ancestors P b
  ancestors_same a b l t = le_antisymm (fewer a b (same_there P wf a b t)) (fewer b a (same_there P wf b a (same_sym P wf a b t)))

  pub ancestors_less : (b a : ℕ) → b < P.atoms → edge P b a ≡ true → same_component P a b ≡ false → ancestors P b < ancestors P a
  unfolding ancestors
  ancestors_less b a l e f =
      let low = edge_below P wf b a e in
      filter_lt (λ c. reach P c b) (λ c. reach P c a) (range 0 P.atoms) (nodup_range 0 P.atoms) (λ c m q. reach_edge P wf c (in_range c m) b a q e)
      a (range_in 0 P.atoms a (omega arith) (omega arith))
      (is_false (λ r. true_false (same_in P wf a b r (reach_edge P wf b l b a (reach_refl P wf b l) e)) f)) (reach_refl P wf a low)
