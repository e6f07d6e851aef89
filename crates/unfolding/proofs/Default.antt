-- The default sequence passes: a chain's different atoms are members of one component, which is listed as often as it has members.
use mathlib.Core.Bool.{true}
use mathlib.Core.List.Pairwise
use mathlib.Core.List.Sublistᴰ
use mathlib.Core.List.{List, [], ◌∷◌, flat_map, Memᴰ, Nodup}
use mathlib.Core.Path.{◌≡◌, refl, sym, ◌∙◌, ap, subst}
use Prim.Native.Nat.{ℕ, zero, suc, ◌*◌, ◌≤◌, ◌<◌}
use native.Mathlib.Nat.{mul-le-mul_left, mul-le-mul_right, mul-add, suc-mul, mul-zero, zero-mul}
use native.Mathlib.Omega.{arith}
use borrow.Author.Tests.{eqb-true, eq-eqb}
use lib.Dec.{eqb}
use lib.ListN.{length, length-append}
use Rattle.lists.specs.Lists.{below, times, range}
use Rattle.lists.proofs.Members.{below_at, below_in, times_out, filter_in, filter_out, flat_map_out, range_in, range_out}
use Rattle.lists.proofs.Nodup.{nodup_append, nodup_filter, nodup_head, nodup_le, nodup_range, length_range}
use Rattle.lists.proofs.Sublists.{sublist_times, sublist_flat_map}
use Rattle.asp.specs.Program.{Program, well_formed}
use Rattle.unfolding.specs.Graph.{component}
use Rattle.unfolding.specs.Chain.{Chain, Passes}
use Rattle.unfolding.specs.Default.{members, block, default_sequence}
use Rattle.unfolding.proofs.Reach.{component_same, component_shared, same_below}
use Rattle.unfolding.proofs.Chains.{component_at}

-- A chain and the component of its first atom.
module _ (P : Program) (wf : well_formed P ≡ true) (a : ℕ) (w : List ℕ) (C : Chain P (a ∷ w)) where
  chain_member : (x : ℕ) → Memᴰ x (a ∷ w) → Memᴰ x (members P (component P a))
  unfolding members
  chain_member x m =
      let l = below_at P.atoms (a ∷ w) C.atoms x m in
      filter_in (λ y. eqb (component P y) (component P a)) (range 0 P.atoms) x (range_in 0 P.atoms x (omega arith) (omega arith))
      (eq-eqb (component P x) (component P a) (component_same P wf x a l (component_at P (a ∷ w) C x a m (Memᴰ.head refl))))

  pub chain_few : length (a ∷ w) ≤ length (members P (component P a))
  chain_few = nodup_le (a ∷ w) (members P (component P a)) C.different chain_member

  pub chain_named : Memᴰ (component P a) (range 0 P.atoms)
  chain_named =
      let here = below_at P.atoms (a ∷ w) C.atoms a (Memᴰ.head refl) in
      let l = same_below P wf a (component P a) here (component_shared P wf a here) in
      range_in 0 P.atoms (component P a) (omega arith) (omega arith)

pub default_passes : (P : Program) → well_formed P ≡ true → Passes P (default_sequence P)
unfolding default_sequence block
default_passes P wf [] C = absurd (C.some refl)
default_passes P wf (a ∷ w) C =
    Sublistᴰ.trans (sublist_times (length (members P (component P a))) (a ∷ w) (members P (component P a)) (chain_few P wf a w C) (chain_member P wf a w C))
    (sublist_flat_map (block P) (range 0 P.atoms) (component P a) (chain_named P wf a w C))

-- Its length: each atom of a component of k atoms stands k times.
members_differ : (P : Program) (cs : List ℕ) → Nodup cs → Nodup (flat_map (members P) cs)
unfolding flat_map members
members_differ P [] d = Pairwise.nil
members_differ P (c ∷ cs) d =
    nodup_append (members P c) (flat_map (members P) cs) (own P c) (members_differ P cs (Pairwise.of_cons d)) (λ x m n.
    let u = flat_map_out (members P) cs x n in nodup_head d (subst (λ y. Memᴰ y cs) (sym (named P u.0 x u.2) ∙ named P c x m) u.1))
  where
    own : (P : Program) (c : ℕ) → Nodup (members P c)
    own P c = nodup_filter (λ a. eqb (component P a) c) (range 0 P.atoms) (nodup_range 0 P.atoms)

    named : (P : Program) (c x : ℕ) → Memᴰ x (members P c) → component P x ≡ c
    named P c x m = eqb-true (component P x) c (filter_out (λ a. eqb (component P a) c) (range 0 P.atoms) x m).1

pub length_times : (k : ℕ) (l : List ℕ) → length (times k l) ≡ k * length l
unfolding times
length_times zero l = let e = zero-mul (length l) in omega arith
length_times (suc k) l = let e = length-append l (times k l) in let f = length_times k l in let g = suc-mul k (length l) in omega arith

blocks_short : (P : Program) (most : ℕ) (cs : List ℕ) → ((c : ℕ) → Memᴰ c cs → length (members P c) ≤ most)
    → length (flat_map (block P) cs) ≤ most * length (flat_map (members P) cs)
unfolding flat_map block
blocks_short P most [] h = let z = mul-zero most in omega arith
blocks_short P most (c ∷ cs) h =
    let k = length (members P c) in
    let rest = length (flat_map (members P) cs) in
    let here = mul-le-mul_right k (h c (Memᴰ.head refl)) in
    let there = blocks_short P most cs (λ d m. h d (Memᴰ.tail m)) in
    let a = length-append (block P c) (flat_map (block P) cs) in
    let b = length_times k (members P c) in
    let d = ap (λ i. most * i) (length-append (members P c) (flat_map (members P) cs)) in
    let e = mul-add most k rest in
    omega arith

member_below : (P : Program) (c x : ℕ) → Memᴰ x (members P c) → Memᴰ x (range 0 P.atoms)
unfolding members
member_below P c x m = (filter_out (λ a. eqb (component P a) c) (range 0 P.atoms) x m).0

-- At most the largest component times the number of atoms.
pub default_short : (P : Program) (most : ℕ) → ((c : ℕ) → c < P.atoms → length (members P c) ≤ most) → length (default_sequence P) ≤ most * P.atoms
unfolding default_sequence
default_short P most h =
    let cs = range 0 P.atoms in
    let each = blocks_short P most cs (λ c m. let r = range_out 0 P.atoms c m in h c (omega (arith, r.high))) in
    let all = nodup_le (flat_map (members P) cs) cs (members_differ P cs (nodup_range 0 P.atoms)) inside in
    let size = length_range 0 P.atoms in
    let times = mul-le-mul_left most all in
    let e = ap (λ i. most * i) size in
    omega arith
  where
    inside : (x : ℕ) → Memᴰ x (flat_map (members P) (range 0 P.atoms)) → Memᴰ x (range 0 P.atoms)
    inside x m =
        let u = flat_map_out (members P) (range 0 P.atoms) x m in
        member_below P u.0 x u.2

-- Its entries are atoms of the program.
pub default_below : (P : Program) → below P.atoms (default_sequence P) ≡ true
unfolding default_sequence block
default_below P =
    below_in P.atoms (default_sequence P) (λ x m.
    let u = flat_map_out (block P) (range 0 P.atoms) x m in
    let r = range_out 0 P.atoms x (member_below P u.0 x (times_out (length (members P u.0)) (members P u.0) x u.2)) in
    omega (arith, r.high))
