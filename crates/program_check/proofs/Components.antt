-- Laws of the sets of the components, one for each atom.
use mathlib.Core.Bool.{true}
use mathlib.Core.List.{List}
use mathlib.Core.Path.{◌≡◌, sym, ◌∙◌, ap}
use Prim.Native.Nat.{ℕ, ◌+◌, ◌≤◌, ◌<◌}
use native.Mathlib.Omega.{arith}
use borrow.Author.Tests.{eqb-true, eqb-false, eq-eqb, lt-ltb}
use lib.Dec.{eqb}
use lib.ListN.{length, get_or, set, length-set}
use lib.Seq.{get_or-set_same, get_or-set_other}
use Rattle.lists.proofs.Bools.{by_bool, bool_ext}
use Rattle.asp.specs.Program.{Program, well_formed}
use Rattle.unfolding.specs.Graph.{same_component, component}
use Rattle.unfolding.proofs.Reach.{same_refl, component_smallest, component_same, component_joins}
use Rattle.bits.specs.inner.Sets.{has}
use Rattle.components.specs.inner.Reachability.{NamesLow, ComponentsOf}
use Rattle.program_check.specs.inner.Checked.{NamedSets}

-- The loop over the atoms: the first a of them have their sets.
pub record Filling (names sets : List ℕ) (a : ℕ) (components : List ℕ) : Type 0 where
  pub long : length components ≡ 64
  pub done : NamedSets a names sets components

module _ (names sets components : List ℕ) where
  pub filling_start : length components ≡ 64 → Filling names sets 0 components
  filling_start e = record { long = e; done = record { is = λ i l. absurd (omega arith) } }

  module _ (a : ℕ) (F : Filling names sets a components) where
    pub filling_turn : (n c : ℕ) → n ≤ 64 → a < n → c ≡ get_or names a 0 → Filling names sets (a + 1) (set components a (get_or sets c 0))
    filling_turn n c m l e =
        let w = F.long in
        let x = get_or sets c 0 in
        record {
          long = length-set components a x ∙ w;
          done = record {
            is = λ i h.
                by_bool (eqb i a)
                (λ t. let k = eqb-true i a t in rw k (get_or-set_same components a x 0 (omega arith) ∙ ap (λ j. get_or sets j 0) e))
                (λ f. let ne = eqb-false i a f in get_or-set_other components a i x 0 ne ∙ F.done.is i (omega arith));
          };
        }

    pub filling_end : (n : ℕ) → n ≤ a → NamedSets n names sets components
    filling_end n l = record { is = λ i h. F.done.is i (omega arith) }

-- The components of a program.
module _ (P : Program) (wf : well_formed P ≡ true) (few : P.atoms ≤ 64) (names sets : List ℕ) (C : ComponentsOf P names sets) where
  name_low : (a : ℕ) → a < P.atoms → get_or names a 0 < 64
  name_low a l = let e = C.named.name a l in let f = component_smallest P wf a a l (same_refl P wf a l) in omega arith

  -- Each atom's name has a set.
  pub names_low : NamesLow P.atoms names
  names_low = record { low = name_low }

  -- The set of an atom's name has just the atoms of its component.
  pub component_has : (components : List ℕ) → NamedSets P.atoms names sets components
      → (a b : ℕ) → a < P.atoms → b < P.atoms → has (get_or components a 0) b ≡ same_component P a b
  component_has components N a b l h =
      ap (λ x. has x b) (N.is a l)
      ∙ (C.grouped.members (get_or names a 0) (name_low a l) b
      ∙ rw (lt-ltb b P.atoms h, C.named.name a l, C.named.name b h)
      (bool_ext
      (λ e. component_joins P wf a b l h (sym (eqb-true (component P b) (component P a) e)))
      (λ s. eq-eqb (component P b) (component P a) (sym (component_same P wf a b l s)))))
