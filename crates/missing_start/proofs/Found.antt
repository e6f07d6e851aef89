-- What is found says: whether a chain is missing, how many atoms the shortest has, and that the table has room for its component.
use mathlib.Core.Bool.{true, false}
use mathlib.Core.List.Memᴰ
use mathlib.Core.List.{List, [], ◌∷◌, Sublistᴰ}
use mathlib.Core.Path.{◌≡◌, refl, sym, ◌∙◌, subst}
use Prim.Native.Nat.{ℕ, ◌<◌}
use native.Mathlib.Omega.{arith}
use lib.ListN.{length, get_or}
use Rattle.std.specs.Prelude.{None}
use Rattle.lists.specs.Lists.{range}
use Rattle.lists.proofs.Bools.{is_false}
use Rattle.lists.proofs.Members.{below_at, filter_cong}
use Rattle.asp.specs.Program.{Program, well_formed}
use Rattle.unfolding.specs.Graph.{component}
use Rattle.unfolding.specs.Chain.{Chain, passes}
use Rattle.unfolding.specs.Missing.{missing_chain}
use Rattle.unfolding.proofs.Reach.{same_refl, component_smallest}
use Rattle.unfolding.proofs.Chains.{passes_iff}
use Rattle.unfolding.proofs.Missing.{missing_length}
use Rattle.bits.specs.inner.Sets.{has}
use Rattle.bits.specs.inner.Visited.{listed}
use Rattle.chain_rows.specs.inner.Subsets.{Roomy}
use Rattle.chains.specs.inner.Components.{Graph, Small}
use Rattle.starts.specs.declared.Start.{Start}
use Rattle.starts.specs.inner.Starts.{Begins, StartIn}

pub none_lacking : (P : Program) → well_formed P ≡ true → (s : List ℕ) → StartIn P s (λ b. b < P.atoms) None → passes P s ≡ true
none_lacking P wf s B = (passes_iff P wf s).1 found
  where
    found : (w : List ℕ) → Chain P w → Sublistᴰ w s
    found [] C = absurd (C.some refl)
    found (b ∷ w) C = B.none refl b w (below_at P.atoms (b ∷ w) C.atoms b (Memᴰ.head refl)) C

module _ (P : Program) (wf : well_formed P ≡ true) (s : List ℕ) (start : Start) (B : Begins P s (λ b. b < P.atoms) start) where
  found_shorter : (w : List ℕ) → Chain P w → length w < start.length → Sublistᴰ w s
  found_shorter [] C l = absurd (C.some refl)
  found_shorter (b ∷ w) C l = B.shorter b w (below_at P.atoms (b ∷ w) C.atoms b (Memᴰ.head refl)) C l

  pub some_lacking : passes P s ≡ false
  some_lacking = is_false (λ e. B.lacks (λ w C _. (passes_iff P wf s).0 e (start.atom ∷ w) C))

  pub start_length : length (missing_chain P s) ≡ start.length
  start_length = missing_length P wf s start.length found_shorter (λ h. B.lacks (λ w C n. h (start.atom ∷ w) C n))

-- The start's set is that of a component, so that the table has room for it.
pub start_roomy : (P : Program) (n : ℕ) (rows sets s : List ℕ) (start : Start) → Graph P n rows sets → Begins P s (λ b. b < P.atoms) start → (room : ℕ) → Small n sets room
    → Roomy (length (listed start.set)) room
unfolding listed
start_roomy P n rows sets s start G B room T =
    let a = start.atom in
    let c = component P a in
    let few = G.edged.low in
    let size = G.size in
    let low = B.low in
    let first = component_smallest P G.edged.formed a a low (same_refl P G.edged.formed a low) in
    subst (λ w. Roomy (length w) room)
    (filter_cong (has (get_or sets c 0)) (has start.set) (range 0 64) (λ b m. (G.grouped c (omega arith)).members b ∙ sym (B.whole.members b)))
    (T.few c (omega arith))
