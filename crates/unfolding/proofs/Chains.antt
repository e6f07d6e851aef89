-- The test of the chain question agrees with the statement about all chains.
use mathlib.Core.Bool.{true, not, ◌&&◌, false≢true}
use mathlib.Core.HLevel.{¬_prop}
use mathlib.Core.List.Memᴰ
use mathlib.Core.List.Nodup
use mathlib.Core.List.Pairwise
use mathlib.Core.List.Sublistᴰ
use mathlib.Core.List.{List, [], ◌∷◌, ◌++◌, Memᴰ, Nodup, Pairwise-append, eq-nil-or-concat, concat-eq-append, concat-ne-nil, Sublistᴰ, cons≢nil}
use mathlib.Core.Logic.{◌⊎◌, inl, inr, ⊎_elim, ◌↔◌, ◌≢◌}
use mathlib.Core.Path.{◌≡◌, refl, sym, ◌∙◌, ap, subst}
use Prim.Native.Nat.{ℕ, zero, suc, ◌≤◌, ◌<◌}
use native.Mathlib.Omega.{arith}
use borrow.Author.Tests.{eqb-true, eq-eqb}
use lib.Dec.{eqb}
use lib.ListN.{length, length-append}
use Rattle.lists.specs.Lists.{all, filter, member, range}
use Rattle.lists.proofs.Bools.{true_false, is_false, and_intro, and_left, and_right, or_cases, or_left, or_right, not_intro, not_elim}
use Rattle.lists.proofs.Members.{below_at, below_in, all_at, all_intro, filter_in, filter_out, flat_map_in, flat_map_out, member_in, member_out, range_in, range_out}
use Rattle.lists.proofs.Nodup.{nodup_cons, nodup_append, nodup_le, length_range}
use Rattle.asp.specs.Program.{Program, well_formed}
use Rattle.unfolding.specs.Graph.{edge, same_component}
use Rattle.unfolding.specs.Chain.{linked, Chain, Passes, extends, longer, chains_of, chains, found, passes}
use Rattle.unfolding.proofs.Reach.{same_refl, same_sym}

-- `found` is the kit's sublist relation.
pub found_out : (w s : List ℕ) → found w s ≡ true → Sublistᴰ w s
unfolding found
found_out [] s e = Sublistᴰ.nil-sublist s
found_out (a ∷ w) [] e = absurd (false≢true e)
found_out (a ∷ w) (x ∷ s) e =
    ⊎_elim (λ q. Sublistᴰ.cons-cons (eqb-true a x (and_left (eqb a x) (found w s) q)) (found_out w s (and_right (eqb a x) (found w s) q)))
    (λ q. Sublistᴰ.cons (found_out (a ∷ w) s q)) (or_cases (eqb a x && found w s) (found (a ∷ w) s) e)

pub found_in : (w s : List ℕ) → Sublistᴰ w s → found w s ≡ true
unfolding found
found_in [] s h = refl
found_in (a ∷ w) [] h = absurd (cons≢nil (Sublistᴰ.eq-nil h))
found_in (a ∷ w) (x ∷ s) h =
    ⊎_elim (λ k. or_right (eqb a x && found w s) (found_in (a ∷ w) s k))
    (λ k. or_left (found (a ∷ w) s) (and_intro (eq-eqb a x k.0) (found_in w s k.1))) (Sublistᴰ.cases_cons-cons h)

module _ (P : Program) where
  pub component_at : (w : List ℕ) → Chain P w → (a b : ℕ) → Memᴰ a w → Memᴰ b w → same_component P a b ≡ true
  component_at w C a b m k = all_at (same_component P a) w (all_at (λ a. all (same_component P a) w) w C.component a m) b k

  -- A chain, from what holds of each of its atoms and of each two.
  chain_of : (w : List ℕ) → ((x : ℕ) → Memᴰ x w → x < P.atoms) → w ≢ [] → Nodup w
      → ((x y : ℕ) → Memᴰ x w → Memᴰ y w → same_component P x y ≡ true) → linked P w ≡ true → Chain P w
  chain_of w low some d same e =
      record {
        atoms = below_in P.atoms w low;
        some = some;
        different = d;
        component = all_intro (λ x. all (same_component P x) w) w (λ x m. all_intro (same_component P x) w (λ y k. same x y m k));
        links = e;
      }

  -- The parts of the test that an atom can stand behind.
  extends_edges : (w : List ℕ) (b : ℕ) → extends P w b ≡ true → linked P (w ++ (b ∷ [])) ≡ true
  unfolding extends
  extends_edges w b e =
      and_left (linked P (w ++ (b ∷ []))) (all (same_component P b) w) (and_left (linked P (w ++ (b ∷ [])) && all (same_component P b) w) (not (member b w)) e)

  extends_same : (w : List ℕ) (b : ℕ) → extends P w b ≡ true → all (same_component P b) w ≡ true
  unfolding extends
  extends_same w b e =
      and_right (linked P (w ++ (b ∷ []))) (all (same_component P b) w) (and_left (linked P (w ++ (b ∷ [])) && all (same_component P b) w) (not (member b w)) e)

  extends_new : (w : List ℕ) (b : ℕ) → extends P w b ≡ true → Memᴰ b w → ⊥
  unfolding extends
  extends_new w b e m = true_false (member_in b w m) (not_elim (and_right (linked P (w ++ (b ∷ [])) && all (same_component P b) w) (not (member b w)) e))

  linked_tail : (b : ℕ) (w : List ℕ) → linked P (b ∷ w) ≡ true → linked P w ≡ true
  unfolding linked
  linked_tail b [] e = refl
  linked_tail b (a ∷ w) e = and_right (edge P b a) (linked P (a ∷ w)) e

  linked_init : (w : List ℕ) (b : ℕ) → linked P (w ++ (b ∷ [])) ≡ true → linked P w ≡ true
  unfolding linked
  linked_init [] b e = refl
  linked_init (a ∷ []) b e = refl
  linked_init (a ∷ c ∷ w) b e =
      and_intro (and_left (edge P a c) (linked P (c ∷ w ++ (b ∷ []))) e) (linked_init (c ∷ w) b (and_right (edge P a c) (linked P (c ∷ w ++ (b ∷ []))) e))

  -- A chain without its first atom, and one without its last.
  pub chain_tail : (b a : ℕ) (w : List ℕ) → Chain P (b ∷ a ∷ w) → Chain P (a ∷ w)
  chain_tail b a w C =
      chain_of (a ∷ w) (λ x m. below_at P.atoms (b ∷ a ∷ w) C.atoms x (Memᴰ.tail m)) cons≢nil (Pairwise.of_cons C.different)
      (λ x y m k. component_at (b ∷ a ∷ w) C x y (Memᴰ.tail m) (Memᴰ.tail k)) (linked_tail b (a ∷ w) C.links)

  module _ (w : List ℕ) (b : ℕ) (C : Chain P (w ++ (b ∷ []))) where
    chain_init : w ≢ [] → Chain P w
    chain_init some =
        chain_of w (λ x m. below_at P.atoms (w ++ (b ∷ [])) C.atoms x (Memᴰ.append_left (b ∷ []) m)) some (Nodup.of_append_left (b ∷ []) C.different)
        (λ x y m k. component_at (w ++ (b ∷ [])) C x y (Memᴰ.append_left (b ∷ []) m) (Memᴰ.append_left (b ∷ []) k)) (linked_init w b C.links)

    last_in : Memᴰ b (w ++ (b ∷ []))
    last_in = Memᴰ.append_right w (Memᴰ.head refl)

    chain_extends : extends P w b ≡ true
    unfolding extends
    chain_extends =
        and_intro (and_intro C.links (all_intro (same_component P b) w (λ y m. component_at (w ++ (b ∷ [])) C b y last_in (Memᴰ.append_left (b ∷ []) m))))
        (not_intro (is_false (λ t. ((Pairwise-append (λ x y. ¬_prop) {l₁ = w} {l₂ = b ∷ []}).0 C.different).2 b ∣ member_out b w t ∣₁ b ∣ Memᴰ.head refl ∣₁ refl)))

    chains_of_more : (k : ℕ) → Memᴰ w (chains_of P k) → Memᴰ (w ++ (b ∷ [])) (chains_of P (suc k))
    unfolding chains_of longer
    chains_of_more k m =
        let l = below_at P.atoms (w ++ (b ∷ [])) C.atoms b last_in in
        flat_map_in (longer P) (chains_of P k) w (w ++ (b ∷ [])) m
        (Memᴰ.map (λ b. w ++ (b ∷ [])) (filter_in (extends P w) (range 0 P.atoms) b (range_in 0 P.atoms b (omega arith) (omega arith)) chain_extends))

  chains_of_in : (k : ℕ) (w : List ℕ) → Chain P w → length w ≡ suc k → Memᴰ w (chains_of P k)
  unfolding chains_of
  chains_of_in zero [] C e = absurd (C.some refl)
  chains_of_in zero (a ∷ []) C e =
      let l = below_at P.atoms (a ∷ []) C.atoms a (Memᴰ.head refl) in
      Memᴰ.map (λ a. a ∷ []) (range_in 0 P.atoms a (omega arith) (omega arith))
  chains_of_in zero (b ∷ a ∷ w) C e = absurd (omega arith)
  chains_of_in (suc k) w C e =
      ⊎_elim (λ n. absurd (C.some n))
      (λ u. let q = u.2 ∙ concat-eq-append u.0 u.1 in
      let D = subst (Chain P) q C in
      let size : length u.0 ≡ suc k = omega (arith, ap length q, length-append u.0 (u.1 ∷ [])) in
      subst (λ v. Memᴰ v (chains_of P (suc k))) (sym q)
      (chains_of_more u.0 u.1 D k (chains_of_in k u.0 (chain_init u.0 u.1 D (λ n. omega (arith, ap length n))) size)))
      (eq-nil-or-concat w)

  -- No chain has more atoms than the program.
  pub chain_length : (w : List ℕ) → Chain P w → length w ≤ P.atoms
  chain_length w C =
      let short = nodup_le w (range 0 P.atoms) C.different (λ x m. let l = below_at P.atoms w C.atoms x m in range_in 0 P.atoms x (omega arith) (omega arith)) in
      let size = length_range 0 P.atoms in
      omega arith

  pub chains_in : (w : List ℕ) → Chain P w → Memᴰ w (chains P)
  unfolding chains
  chains_in [] C = absurd (C.some refl)
  chains_in (a ∷ w) C =
      let short = chain_length (a ∷ w) C in
      flat_map_in (chains_of P) (range 0 P.atoms) (length w) (a ∷ w) (range_in 0 P.atoms (length w) (omega arith) (omega arith)) (chains_of_in (length w) (a ∷ w) C refl)

module _ (P : Program) (wf : well_formed P ≡ true) where
  pub chain_one : (a : ℕ) → a < P.atoms → Chain P (a ∷ [])
  unfolding linked
  chain_one a l =
      chain_of P (a ∷ []) (λ x m. subst (λ y. y < P.atoms) (sym (Memᴰ.eq_of_singleton m)) l) cons≢nil (nodup_cons (λ m. Memᴰ.not-nil m) Pairwise.nil)
      (λ x y m k. subst (λ u. same_component P u y ≡ true) (sym (Memᴰ.eq_of_singleton m)) (subst (λ u. same_component P a u ≡ true) (sym (Memᴰ.eq_of_singleton k)) (same_refl P wf a l)))
      refl

  -- One atom more, in front or at the end.
  module _ (b : ℕ) (w : List ℕ) (l : b < P.atoms) (C : Chain P w) where
    chain_more : all (same_component P b) w ≡ true → (v : List ℕ) → ((x : ℕ) → Memᴰ x v → (x ≡ b) ⊎ Memᴰ x w) → v ≢ [] → Nodup v → linked P v ≡ true → Chain P v
    chain_more t v from some d e =
        chain_of P v (λ x m. ⊎_elim (λ q. subst (λ y. y < P.atoms) (sym q) l) (below_at P.atoms w C.atoms x) (from x m)) some d
        (λ x y m k. pair x y (from x m) (from y k)) e
      where
        pair : (x y : ℕ) → (x ≡ b) ⊎ Memᴰ x w → (y ≡ b) ⊎ Memᴰ y w → same_component P x y ≡ true
        pair x y =
            ⊎_elim
            (λ p. ⊎_elim (λ q. subst (λ u. same_component P u y ≡ true) (sym p) (subst (λ u. same_component P b u ≡ true) (sym q) (same_refl P wf b l)))
            (λ k. subst (λ u. same_component P u y ≡ true) (sym p) (all_at (same_component P b) w t y k)))
            (λ m. ⊎_elim (λ q. subst (λ u. same_component P x u ≡ true) (sym q) (same_sym P wf b x (all_at (same_component P b) w t x m))) (λ k. component_at P w C x y m k))

    pub chain_cons : linked P (b ∷ w) ≡ true → all (same_component P b) w ≡ true → (Memᴰ b w → ⊥) → Chain P (b ∷ w)
    chain_cons e t new = chain_more t (b ∷ w) (λ x m. Memᴰ.cases_cons m) cons≢nil (nodup_cons new C.different) e

    chain_end : extends P w b ≡ true → Chain P (w ++ (b ∷ []))
    chain_end e =
        chain_more (extends_same P w b e) (w ++ (b ∷ [])) (λ x m. ⊎_elim inr (λ k. inl (Memᴰ.eq_of_singleton k)) (Memᴰ.append_cases w m)) (concat-ne-nil b w)
        (nodup_append w (b ∷ []) C.different (nodup_cons (λ m. Memᴰ.not-nil m) Pairwise.nil)
        (λ x m k. extends_new P w b e (subst (λ y. Memᴰ y w) (Memᴰ.eq_of_singleton k) m))) (extends_edges P w b e)

  pub chains_of_out : (k : ℕ) (w : List ℕ) → Memᴰ w (chains_of P k) → Chain P w × (length w ≡ suc k)
  unfolding chains_of longer
  chains_of_out zero w m =
      let u = Memᴰ.of_map (λ a. a ∷ []) (range 0 P.atoms) m in
      let r = range_out 0 P.atoms u.0 u.1 in
      (subst (Chain P) u.2 (chain_one u.0 (omega (arith, r.high))), sym (ap length u.2))
  chains_of_out (suc k) w m =
      let u = flat_map_out (longer P) (chains_of P k) w m in
      let v = Memᴰ.of_map (λ b. u.0 ++ (b ∷ [])) (filter (extends P u.0) (range 0 P.atoms)) u.2 in
      let f = filter_out (extends P u.0) (range 0 P.atoms) v.0 v.1 in
      let r = range_out 0 P.atoms v.0 f.0 in
      let h = chains_of_out k u.0 u.1 in (
        subst (Chain P) v.2 (chain_end v.0 u.0 (omega (arith, r.high)) h.0 f.1),
        omega (arith, h.1, ap length v.2, length-append u.0 (v.0 ∷ [])),
      )

  pub chains_out : (w : List ℕ) → Memᴰ w (chains P) → Chain P w
  unfolding chains
  chains_out w m = let u = flat_map_out (chains_of P) (range 0 P.atoms) w m in (chains_of_out u.0 w u.2).0

  -- The sequence passes the test just when every chain is found in it.
  pub passes_iff : (s : List ℕ) → (passes P s ≡ true) ↔ Passes P s
  unfolding passes
  passes_iff s = (
    λ e w C. found_out w s (all_at (λ w. found w s) (chains P) e w (chains_in P w C)),
    λ h. all_intro (λ w. found w s) (chains P) (λ w m. found_in w s (h w (chains_out w m))),
  )
