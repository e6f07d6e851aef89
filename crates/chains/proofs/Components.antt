-- Laws of the chain question, component by component.
use mathlib.Core.Bool.{Bool, true, false}
use mathlib.Core.List.Memᴰ
use mathlib.Core.List.{List, [], ◌∷◌, Memᴰ, Sublistᴰ}
use mathlib.Core.Path.{◌≡◌, refl, sym, ◌∙◌, subst}
use Prim.Native.Nat.{ℕ, ◌+◌, ◌-◌, ◌≤◌, ◌<◌}
use native.Mathlib.Omega.{arith}
use borrow.Author.Tests.{eqb-true, eqb-false, eq-eqb, ltb-true, lt-ltb}
use lib.Dec.{eqb, ltb}
use lib.ListN.{length, get_or, take, drop, length-drop}
use lib.Seq.{take_all, get_or-take}
use Rattle.std.proofs.lemmas.List.{length-take}
use Rattle.lists.specs.Lists.{below, filter, range}
use Rattle.lists.proofs.Bools.{by_bool, true_false, is_false, and_intro, and_left, and_right}
use Rattle.lists.proofs.Members.{below_at, below_more, member_out, member_in, filter_in, range_in}
use Rattle.lists.proofs.Nodup.{nodup_head}
use Rattle.lists.proofs.Sublists.{sublist_mem, mem_sublist}
use Rattle.asp.specs.Program.{Program, well_formed}
use Rattle.unfolding.specs.Graph.{component}
use Rattle.unfolding.specs.Chain.{Chain, passes}
use Rattle.unfolding.proofs.Reach.{same_refl, same_below, component_smallest, component_same, component_joins}
use Rattle.unfolding.proofs.Chains.{component_at, chain_one, passes_iff}
use Rattle.bits.specs.inner.Sets.{has, Gathered, Size, Subset}
use Rattle.bits.specs.inner.Visited.{listed}
use Rattle.bits.proofs.Listing.{listed_has, listed_place, listed_apart}
use Rattle.chain_rows.specs.inner.Subsets.{Roomy, Setting}
use Rattle.chains.specs.inner.Components.{Tested, Edged, Members, ComponentTested, SetTested, Graph, Small, PassesBy}

-- A component's atoms, listed.
module _ (x : ℕ) (L : List ℕ) (S : L ≡ listed x) (P : Program) (c : ℕ) (rows : List ℕ) (G : Edged P rows) (M : Members P c x) where
  abbrev atom : ℕ → ℕ
  atom p = get_or L p 0

  member_low : (a : ℕ) → has x a ≡ true → a < P.atoms
  member_low a t = ltb-true a P.atoms (and_left (ltb a P.atoms) (eqb (component P a) c) (sym (M.members a) ∙ t))

  atom_low : (p : ℕ) → p < length L → atom p < P.atoms
  atom_low p l = member_low (atom p) (listed_has x L S p l)

  pub atom_named : (p : ℕ) → p < length L → component P (atom p) ≡ c
  atom_named p l = eqb-true (component P (atom p)) c (and_right (ltb (atom p) P.atoms) (eqb (component P (atom p)) c) (sym (M.members (atom p)) ∙ listed_has x L S p l))

  pub named_place : (a : ℕ) → a < P.atoms → component P a ≡ c → (p : ℕ) × (p < length L) × (atom p ≡ a)
  named_place a l e = let h = G.low in listed_place x L S a (omega arith) (M.members a ∙ and_intro (lt-ltb a P.atoms l) (eq-eqb (component P a) c e))

  pub setting : Setting P rows L (length L)
  setting =
      record {
        formed = G.formed;
        edges = G.edges;
        low = atom_low;
        apart = listed_apart x L S;
        joined = λ p q l m. component_joins P G.formed (atom p) (atom q) (atom_low p l) (atom_low q m) (atom_named p l ∙ sym (atom_named q m));
        whole = λ p l b t. named_place b (same_below P G.formed (atom p) b (atom_low p l) t) (sym (component_same P G.formed (atom p) b (atom_low p l) t) ∙ atom_named p l);
      }

  component_tested : (s : List ℕ) (r : Bool) → Tested rows L (length L) s r → ComponentTested P c s r
  component_tested s r T = record { is = (there, back) }
    where
      there : r ≡ true → (a : ℕ) (w : List ℕ) → Chain P (a ∷ w) → component P a ≡ c → Sublistᴰ (a ∷ w) s
      there t a w C e =
          let u = named_place a (below_at P.atoms (a ∷ w) C.atoms a (Memᴰ.head refl)) e in
          subst (λ b. Sublistᴰ (b ∷ w) s) u.2 ((T.is P setting).0 t u.0 u.1 w (subst (λ b. Chain P (b ∷ w)) (sym u.2) C))

      back : ((a : ℕ) (w : List ℕ) → Chain P (a ∷ w) → component P a ≡ c → Sublistᴰ (a ∷ w) s) → r ≡ true
      back h = (T.is P setting).1 (λ p l w C. h (atom p) w C (atom_named p l))

module _ (x : ℕ) (L : List ℕ) (S : L ≡ listed x) where
  pub places_roomy : (rows : ℕ) → Roomy (length (listed x)) rows → Roomy (length L) rows
  places_roomy rows R = subst (λ l. Roomy (length l) rows) (sym S) R

  pub set_tested : (rows s : List ℕ) (r : Bool) → Tested rows L (length L) s r → SetTested rows x s r
  set_tested rows s r T = record { is = λ P c G M. component_tested x L S P c rows G M s r T }

-- A component of at most one atom has no chain but that atom.
one_of : (l : List ℕ) → length l ≤ 1 → (a b : ℕ) → Memᴰ a l → Memᴰ b l → a ≡ b
one_of [] e a b m k = absurd (Memᴰ.not-nil m)
one_of (y ∷ []) e a b m k = Memᴰ.eq_of_singleton m ∙ sym (Memᴰ.eq_of_singleton k)
one_of (y ∷ z ∷ l) e a b m k = absurd (omega arith)

module _ (x size : ℕ) (Z : Size x size) (one : size ≤ 1) (P : Program) (c : ℕ) (rows : List ℕ) (G : Edged P rows) (M : Members P c x) where
  inside : (a : ℕ) → a < P.atoms → component P a ≡ c → has x a ≡ true
  inside a l e = M.members a ∙ and_intro (lt-ltb a P.atoms l) (eq-eqb (component P a) c e)

  alone : (a b : ℕ) → a < P.atoms → component P a ≡ c → b < P.atoms → component P b ≡ c → a ≡ b
  alone a b la ea lb eb = let h = G.low in one_of (filter (has x) (range 0 64)) (let e = Z.is in omega arith) a b (in_list a la ea) (in_list b lb eb)
    where
      in_list : (a : ℕ) → a < P.atoms → component P a ≡ c → Memᴰ a (filter (has x) (range 0 64))
      in_list a l e = let h = G.low in filter_in (has x) (range 0 64) a (range_in 0 64 a (omega arith) (omega arith)) (inside a l e)

  found_alone : (s : List ℕ) (e : ℕ) (b : Bool) → Gathered s e → Subset x e b → b ≡ true → (a : ℕ) (w : List ℕ) → Chain P (a ∷ w) → component P a ≡ c → Sublistᴰ (a ∷ w) s
  found_alone s e b K B t a [] C g =
      let low = below_at P.atoms (a ∷ []) C.atoms a (Memᴰ.head refl) in
      sublist_mem (member_out a s (sym (K.members a) ∙ B.inside t a (inside a low g)))
  found_alone s e b K B t a (d ∷ w) C g =
      let low = below_at P.atoms (a ∷ d ∷ w) C.atoms in
      let la = low a (Memᴰ.head refl) in
      let ld = low d (Memᴰ.tail (Memᴰ.head refl)) in
      let gd = sym (component_same P G.formed a d la (component_at P (a ∷ d ∷ w) C a d (Memᴰ.head refl) (Memᴰ.tail (Memᴰ.head refl)))) ∙ g in
      absurd (nodup_head C.different (Memᴰ.head (alone a d la g ld gd)))

  alone_tested : (s : List ℕ) (e : ℕ) (b : Bool) → Gathered s e → Subset x e b → ComponentTested P c s b
  alone_tested s e b K B =
      record {
        is = (
          found_alone s e b K B,
          λ h. B.all_inside (λ a t.
              let u = sym (M.members a) ∙ t in
              let low = ltb-true a P.atoms (and_left (ltb a P.atoms) (eqb (component P a) c) u) in
              K.members a ∙ member_in a s (mem_sublist (h a [] (chain_one P G.formed a low) (eqb-true (component P a) c (and_right (ltb a P.atoms) (eqb (component P a) c) u))) (Memᴰ.head refl))),
        );
      }

pub set_alone : (rows s : List ℕ) (x size e : ℕ) (b : Bool) → Size x size → size ≤ 1 → Gathered s e → Subset x e b → SetTested rows x s b
set_alone rows s x size e b Z one K B = record { is = λ P c G M. alone_tested x size Z one P c rows G M s e b K B }

-- The components named below c.
pub record Sofar (P : Program) (s : List ℕ) (c : ℕ) : Type 0 where
  pub found : (a : ℕ) (w : List ℕ) → Chain P (a ∷ w) → component P a < c → Sublistᴰ (a ∷ w) s

module _ (P : Program) (wf : well_formed P ≡ true) (s : List ℕ) where
  sofar_start : Sofar P s 0
  sofar_start = record { found = λ a w C l. absurd (omega arith) }

  sofar_turn : (c : ℕ) (b : Bool) → Sofar P s c → ComponentTested P c s b → b ≡ true → Sofar P s (c + 1)
  sofar_turn c b F K t =
      record { found = λ a w C l. by_bool (eqb (component P a) c) (λ q. K.is.0 t a w C (eqb-true (component P a) c q)) (λ q. let ne = eqb-false (component P a) c q in F.found a w C (omega arith)) }

  sofar_fails : (c : ℕ) (b : Bool) → ComponentTested P c s b → b ≡ false → false ≡ passes P s
  sofar_fails c b K f = sym (is_false (λ t. true_false (K.is.1 (λ a w C e. (passes_iff P wf s).0 t (a ∷ w) C)) f))

  sofar_end : (c : ℕ) → Sofar P s c → P.atoms ≤ c → true ≡ passes P s
  sofar_end c F l =
      sym ((passes_iff P wf s).1 found)
    where
      found : (w : List ℕ) → Chain P w → Sublistᴰ w s
      found [] C = absurd (C.some refl)
      found (a ∷ w) C =
          let low = below_at P.atoms (a ∷ w) C.atoms a (Memᴰ.head refl) in
          let m = component_smallest P wf a a low (same_refl P wf a low) in
          F.found a w C (omega arith)

-- The same for every program with this graph.
pub record Asking (n : ℕ) (rows sets s : List ℕ) (c : ℕ) : Type 0 where
  pub sofar : (P : Program) → Graph P n rows sets → Sofar P s c

module _ (n : ℕ) (rows sets s : List ℕ) where
  pub asking_start : Asking n rows sets s 0
  asking_start = record { sofar = λ P G. sofar_start P G.edged.formed s }

  module _ (c : ℕ) (b : Bool) (A : Asking n rows sets s c) (l : c < length (take n sets)) (low : n ≤ 64) (T : SetTested rows (get_or (take n sets) c 0) s b) where
    tested : (P : Program) → Graph P n rows sets → ComponentTested P c s b
    tested P G = let within : c < n = omega (arith, length-take n sets) in T.is P c G.edged (rw (get_or-take n sets c 0 within) (G.grouped c (omega arith)))

    pub asking_turn : b ≡ true → Asking n rows sets s (c + 1)
    asking_turn t = record { sofar = λ P G. sofar_turn P G.edged.formed s c b (A.sofar P G) (tested P G) t }

    pub asking_fails : b ≡ false → PassesBy n rows sets s false
    asking_fails f = record { is = λ P G. sofar_fails P G.edged.formed s c b (tested P G) f }

  pub asking_end : (c : ℕ) → Asking n rows sets s c → n ≤ c → PassesBy n rows sets s true
  asking_end c A l = record { is = λ P G. sofar_end P G.edged.formed s c (A.sofar P G) (let e = G.size in omega arith) }

pub component_roomy : (n : ℕ) (sets : List ℕ) (rows c r : ℕ) → Small n sets rows → c < length (take n sets) → r ≡ rows → Roomy (length (listed (get_or (take n sets) c 0))) r
component_roomy n sets rows c r S l e =
    let within : c < n = omega (arith, length-take n sets) in
    rw (e, get_or-take n sets c 0 within) (S.few c within)

-- The entries behind the header, as the code has them.
module _ (q : List ℕ) where
  behind : take (length q - 3) (drop 3 q) ≡ drop 3 q
  behind = take_all (length q - 3) (drop 3 q) (let e = length-drop 3 q in omega arith)

  pub entries_low : (n : ℕ) → n ≤ 64 → below n (drop 3 q) ≡ true → below 64 (take (length q - 3) (drop 3 q)) ≡ true
  entries_low n h e = rw behind (below_more n 64 (drop 3 q) h e)

  pub entries_gathered : (x : ℕ) → Gathered (take (length q - 3) (drop 3 q)) x → Gathered (drop 3 q) x
  entries_gathered x K = rw behind at K
