-- The names that the closed table gives are the components' names, and question 7 by names is question 7.
use mathlib.Core.Bool.{Bool, true, cond}
use mathlib.Core.List.{List, [], ◌∷◌, Memᴰ}
use mathlib.Core.Path.{◌≡◌, refl, sym, ◌∙◌, ap}
use Prim.Native.Nat.{ℕ, zero, suc, ◌+◌, ◌-◌, ◌≤◌, ◌<◌}
use native.Mathlib.Nat.{add-zero, zero-add}
use native.Mathlib.Omega.{arith}
use borrow.Author.Tests.{leb-true}
use lib.Dec.{eqb, leb}
use lib.ListN.{length, get_or}
use Rattle.lists.specs.Lists.{range}
use Rattle.lists.proofs.Bools.{by_bool}
use Rattle.lists.proofs.Members.{all_at, all_cong, filter_cong, range_out}
use Rattle.asp.specs.Program.{Program, well_formed}
use Rattle.unfolding.specs.Graph.{same_component, first, component}
use Rattle.unfolding.specs.Default.{members}
use Rattle.unfolding.proofs.Reach.{same_refl}
use Rattle.components.specs.Limit.{components_fit}
use Rattle.components.specs.inner.Reachability.{closure, Holds, EdgesOf, ClosedTable, both_ways, NamedBy, NamesOf, SetsOf, named, names_fit, ComponentsOf, GraphOf}
use Rattle.components.proofs.Warshall.{into, mutual_reach}

-- The first of a range in which a is one that passes.
first_within : (p : ℕ → Bool) (d k j m : ℕ) → p (k + j) ≡ true → first p d (range k (j + suc m)) ≡ first p (k + j) (range k j)
unfolding first range
first_within p d k zero m e =
    ap (λ i. first p d (range k i)) (zero-add (suc m)) ∙ (ap (λ (b : Bool). cond b k (first p d (range (suc k) m))) (ap p (sym (add-zero k)) ∙ e) ∙ sym (add-zero k))
first_within p d k (suc j) m e =
    let shift : k + suc j ≡ suc k + j = omega arith in
    let more : suc j + suc m ≡ suc (j + suc m) = omega arith in
    ap (λ i. first p d (range k i)) more
    ∙ by_bool (p k) (λ t. rw t refl)
    (λ f. rw f (first_within p d (suc k) j m (ap p (sym shift) ∙ e) ∙ ap (λ i. first p i (range (suc k) j)) (sym shift)))

first_cong : (p q : ℕ → Bool) (d : ℕ) (l : List ℕ) → ((x : ℕ) → Memᴰ x l → p x ≡ q x) → first p d l ≡ first q d l
unfolding first
first_cong p q d [] h = refl
first_cong p q d (x ∷ l) h = rw (h x (Memᴰ.head refl), first_cong p q d l (λ y m. h y (Memᴰ.tail m))) refl

component_first : (P : Program) → well_formed P ≡ true → (a : ℕ) → a < P.atoms → component P a ≡ first (same_component P a) a (range 0 a)
unfolding component
component_first P wf a l =
    let size : P.atoms ≡ a + suc (P.atoms - suc a) = omega arith in
    let here : same_component P a (0 + a) ≡ true = ap (same_component P a) (zero-add a) ∙ same_refl P wf a l in
    ap (λ n. first (same_component P a) a (range 0 n)) size
    ∙ (first_within (same_component P a) a 0 a (P.atoms - suc a) here ∙ ap (λ d. first (same_component P a) d (range 0 a)) (zero-add a))

-- The names and sets of a closed table are those of the components.
module _ (P : Program) (wf : well_formed P ≡ true) (rows new names sets : List ℕ) where
  components_are : EdgesOf P rows → ClosedTable P.atoms rows new → NamedBy P.atoms new names → SetsOf names P.atoms sets
      → ComponentsOf P names sets
  components_are H C N S =
      record { named = record { long = N.long; name = λ a l. (N.name a l).is ∙ (first_cong (both_ways new a) (same_component P a) a (range 0 a) (λ b k. same a l b (range_out 0 a b k).high) ∙ sym (component_first P wf a l)) }; grouped = S }
    where
      table : Holds P.atoms (closure (into P) P.atoms) new
      table = C.closes (into P) H

      same : (a : ℕ) → a < P.atoms → (b : ℕ) → b < 0 + a → both_ways new a b ≡ same_component P a b
      same a l b k = rw (table.bits a l b, table.bits b (omega arith) a) (mutual_reach P wf a b l (omega arith) (λ e. omega arith))

pub graph_made : (n : ℕ) (rows new names sets : List ℕ) → ClosedTable n rows new → NamedBy n new names → SetsOf names n sets
    → GraphOf n rows names sets
graph_made n rows new names sets C N S =
    record { is = λ P wf n' H. components_are P wf rows new names sets H (rw n' C) (rw n' N) (rw n' S) }

-- The atoms with a name are the members of that component.
pub named_members : (P : Program) (names : List ℕ) → NamesOf P names → (c : ℕ) → named names c P.atoms ≡ members P c
unfolding named members
named_members P names N c =
    filter_cong (λ a. eqb (get_or names a 0) c) (λ a. eqb (component P a) c) (range 0 P.atoms) (λ a m.
    let r = range_out 0 P.atoms a m in ap (λ x. eqb x c) (N.name a (omega (arith, r.high))))

-- Question 7.
pub fits_same : (P : Program) (names : List ℕ) → NamesOf P names → (most : ℕ) → names_fit most names P.atoms ≡ components_fit most P
unfolding names_fit components_fit
fits_same P names N most =
    all_cong (λ c. leb (length (named names c P.atoms)) most) (λ c. leb (length (members P c)) most) (range 0 P.atoms) (λ c _.
    ap (λ l. leb (length l) most) (named_members P names N c))

-- What it says of one component.
pub fits_members : (P : Program) (most : ℕ) → components_fit most P ≡ true → (c : ℕ) → Memᴰ c (range 0 P.atoms) → length (members P c) ≤ most
unfolding components_fit
fits_members P most fits c m = leb-true (length (members P c)) most (all_at (λ c. leb (length (members P c)) most) (range 0 P.atoms) fits c m)
