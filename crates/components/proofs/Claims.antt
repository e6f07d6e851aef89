-- Question 7 is about components: a component's atoms are the members listed under its name.
use mathlib.Core.Bool.{true}
use mathlib.Core.List.{List, [], ◌∷◌, Memᴰ}
use mathlib.Core.Path.{◌≡◌, refl, sym, ◌∙◌, ap, subst}
use Prim.Native.Nat.{ℕ, ◌≤◌, ◌<◌}
use native.Mathlib.Omega.{arith}
use borrow.Author.Tests.{eqb-true, eq-eqb, le-leb}
use lib.Dec.{eqb, leb}
use lib.ListN.{length}
use Rattle.lists.specs.Lists.{filter, range}
use Rattle.lists.proofs.Bools.{bool_ext}
use Rattle.lists.proofs.Members.{all_intro, filter_cong, filter_out, range_in}
use Rattle.asp.specs.Program.{Program, State, well_formed}
use Rattle.unfolding.specs.Graph.{same_component, component}
use Rattle.unfolding.specs.Component.{Component}
use Rattle.unfolding.specs.Default.{members}
use Rattle.unfolding.proofs.Ancestors.{in_range}
use Rattle.unfolding.proofs.Reach.{same_below, component_of, component_only, component_shared, component_same, component_joins}
use Rattle.components.specs.Limit.{components_fit}
use Rattle.components.specs.Claims.{FitIsOfComponents}
use Rattle.components.proofs.Graphs.{fits_members}

-- A bound on the length of a list may be shown with a member at hand: the empty list needs none.
by_member : (l : List ℕ) (most : ℕ) → ((a : ℕ) → Memᴰ a l → length l ≤ most) → length l ≤ most
by_member [] most h = omega arith
by_member (a ∷ l) most h = h a (Memᴰ.head refl)

module _ (P : Program) (wf : well_formed P ≡ true) where
  -- The atoms of an atom's component are the members under its name.
  same_members : (a : ℕ) → a < P.atoms → filter (same_component P a) (range 0 P.atoms) ≡ members P (component P a)
  unfolding members
  same_members a l =
      filter_cong (same_component P a) (λ b. eqb (component P b) (component P a)) (range 0 P.atoms) (λ b m.
      bool_ext (λ t. eq-eqb (component P b) (component P a) (sym (component_same P wf a b l t)))
      (λ e. component_joins P wf a b l (in_range P wf b m) (sym (eqb-true (component P b) (component P a) e))))

  fit_out : (most : ℕ) → components_fit most P ≡ true → (C : State) → Component P C → length (filter C (range 0 P.atoms)) ≤ most
  fit_out most e C K =
      by_member (filter C (range 0 P.atoms)) most (λ a m.
      let u = filter_out C (range 0 P.atoms) a m in
      let l = in_range P wf a u.0 in
      let c = same_below P wf a (component P a) l (component_shared P wf a l) in
      subst (λ D. length (filter D (range 0 P.atoms)) ≤ most) (sym (component_only P wf C K a u.1))
      (subst (λ k. length k ≤ most) (sym (same_members a l))
      (fits_members P most e (component P a) (range_in 0 P.atoms (component P a) (omega arith) (omega arith)))))

  fit_in : (most : ℕ) → ((C : State) → Component P C → length (filter C (range 0 P.atoms)) ≤ most) → components_fit most P ≡ true
  unfolding components_fit members
  fit_in most h =
      all_intro (λ c. leb (length (members P c)) most) (range 0 P.atoms) (λ c _.
      le-leb (length (members P c)) most
      (by_member (members P c) most (λ a m.
      let u = filter_out (λ a. eqb (component P a) c) (range 0 P.atoms) a m in
      let l = in_range P wf a u.0 in
      subst (λ k. length k ≤ most) (same_members a l ∙ ap (members P) (eqb-true (component P a) c u.1))
      (h (same_component P a) (component_of P wf a l)))))

pub fit_is_of_components : FitIsOfComponents
fit_is_of_components P w most = (fit_out P w most, fit_in P w most)
