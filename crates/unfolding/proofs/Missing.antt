-- The missing chain is the first of the chains that are not found, by length and then by atoms.
use mathlib.Core.Bool.{Bool, true, false, not, ◌&&◌, false≢true}
use mathlib.Core.List.Memᴰ
use mathlib.Core.List.{List, [], ◌∷◌, ◌++◌, Memᴰ, Sublistᴰ}
use mathlib.Core.Logic.{◌⊎◌, inl, inr, ⊎_elim, ◌↔◌, ◌≢◌}
use mathlib.Core.Path.{◌≡◌, refl, sym, ◌∙◌, ap, ap₂}
use Prim.Native.Nat.{ℕ, zero, suc, ◌≤◌, ◌<◌}
use native.Mathlib.Nat.{le_antisymm}
use native.Mathlib.Omega.{arith}
use borrow.Author.Tests.{eqb-true, eq-eqb, ltb-true, ltb-false, lt-ltb, le-ltb, ne_eqb}
use lib.Dec.{eqb, ltb}
use lib.ListN.{length, get_or}
use Rattle.lists.specs.Lists.{filter, range}
use Rattle.lists.proofs.Bools.{by_bool, true_false, is_false, and_intro, and_left, and_right, or_cases, or_left, or_right, not_intro, not_elim}
use Rattle.lists.proofs.Members.{all_at, all_fails, filter_in, filter_out, filter_none}
use Rattle.lists.proofs.Sorted.{Sorted, sorted_filter, sorted_imp, sorted_first, sorted_map, sorted_flat_map, sorted_range}
use Rattle.asp.specs.Program.{Program, well_formed}
use Rattle.unfolding.specs.Chain.{Chain, extends, longer, chains_of, chains, found, passes}
use Rattle.unfolding.specs.Missing.{missing_chains, missing_chain, precedes, ShortestMissing}
use Rattle.unfolding.proofs.Chains.{found_in, found_out, chains_in, chains_of_out, chains_out, passes_iff}

-- The order of lists, taken apart and put together at the first atoms.
module _ (a b : ℕ) (w v : List ℕ) where
  precedes_cases : precedes (a ∷ w) (b ∷ v) ≡ true → (a < b) ⊎ ((a ≡ b) × (precedes w v ≡ true))
  unfolding precedes
  precedes_cases e =
      ⊎_elim (λ t. inl (ltb-true a b t)) (λ t. inr (eqb-true a b (and_left (eqb a b) (precedes w v) t), and_right (eqb a b) (precedes w v) t))
      (or_cases (ltb a b) (eqb a b && precedes w v) e)

  precedes_less : a < b → precedes (a ∷ w) (b ∷ v) ≡ true
  unfolding precedes
  precedes_less l = or_left (eqb a b && precedes w v) (lt-ltb a b l)

  precedes_equal : a ≡ b → precedes w v ≡ true → precedes (a ∷ w) (b ∷ v) ≡ true
  unfolding precedes
  precedes_equal q e = or_right (ltb a b) (and_intro (eq-eqb a b q) e)

-- More atoms behind lists that differ, and behind the same list.
precedes_append : (w v x y : List ℕ) → precedes w v ≡ true → precedes (w ++ x) (v ++ y) ≡ true
unfolding precedes
precedes_append [] v x y e = absurd (false≢true e)
precedes_append (a ∷ w) [] x y e = absurd (false≢true e)
precedes_append (a ∷ w) (b ∷ v) x y e =
    ⊎_elim (precedes_less a b (w ++ x) (v ++ y)) (λ k. precedes_equal a b (w ++ x) (v ++ y) k.0 (precedes_append w v x y k.1)) (precedes_cases a b w v e)

precedes_behind : (w x y : List ℕ) → precedes x y ≡ true → precedes (w ++ x) (w ++ y) ≡ true
precedes_behind [] x y e = e
precedes_behind (a ∷ w) x y e = precedes_equal a a (w ++ x) (w ++ y) refl (precedes_behind w x y e)

-- By the order of the first atoms, and where they are the same.
pub precedes_not : (a b : ℕ) (v w : List ℕ) → a < b → precedes (b ∷ v) (a ∷ w) ≡ false
unfolding precedes
precedes_not a b v w l = rw (le-ltb b a (omega arith), ne_eqb b a (omega arith)) refl

pub precedes_tail : (a : ℕ) (v w : List ℕ) → precedes (a ∷ v) (a ∷ w) ≡ precedes v w
unfolding precedes
precedes_tail a v w = rw (le-ltb a a (omega arith), eq-eqb a a refl) refl

-- It is an order: no two lists precede each other, and lists of one length of which neither precedes the other are the same.
precedes_once : (w v : List ℕ) → precedes w v ≡ true → precedes v w ≡ true → ⊥
unfolding precedes
precedes_once [] v e f = false≢true e
precedes_once (a ∷ w) [] e f = false≢true e
precedes_once (a ∷ w) (b ∷ v) e f =
    ⊎_elim (λ l. ⊎_elim (λ m. omega arith) (λ k. omega (arith, k.0)) (precedes_cases b a v w f))
    (λ k. ⊎_elim (λ m. omega (arith, k.0)) (λ j. precedes_once w v k.1 j.1) (precedes_cases b a v w f)) (precedes_cases a b w v e)

precedes_same : (w v : List ℕ) → length w ≡ length v → precedes w v ≡ false → precedes v w ≡ false → w ≡ v
precedes_same [] [] n e f = refl
precedes_same [] (b ∷ v) n e f = absurd (omega arith)
precedes_same (a ∷ w) [] n e f = absurd (omega arith)
precedes_same (a ∷ w) (b ∷ v) n e f =
    let above : b ≤ a = ltb-false a b (is_false (λ t. true_false (precedes_less a b w v (ltb-true a b t)) e)) in
    let below : a ≤ b = ltb-false b a (is_false (λ t. true_false (precedes_less b a v w (ltb-true b a t)) f)) in
    let q = le_antisymm below above in
    ap₂ ◌∷◌ q (precedes_same w v (omega arith) (is_false (λ t. true_false (precedes_equal a b w v q t) e)) (is_false (λ t. true_false (precedes_equal b a v w (sym q) t) f)))

-- By length first, then by atoms.
abbrev before : List ℕ → List ℕ → Bool
before w v = precedes (length w ∷ w) (length v ∷ v)

module _ (P : Program) (wf : well_formed P ≡ true) where
  longer_sorted : (w : List ℕ) → Sorted precedes (longer P w)
  unfolding longer
  longer_sorted w =
      sorted_map ltb precedes (λ b. w ++ (b ∷ [])) (filter (extends P w) (range 0 P.atoms))
      (λ a b t. precedes_behind w (a ∷ []) (b ∷ []) (precedes_less a b [] [] (ltb-true a b t)))
      (sorted_filter ltb (extends P w) (range 0 P.atoms) (sorted_range 0 P.atoms))

  longer_across : (w v : List ℕ) → precedes w v ≡ true → (x y : List ℕ) → Memᴰ x (longer P w) → Memᴰ y (longer P v) → precedes x y ≡ true
  unfolding longer
  longer_across w v e x y m n =
      let j = Memᴰ.of_map (λ b. w ++ (b ∷ [])) (filter (extends P w) (range 0 P.atoms)) m in
      let k = Memᴰ.of_map (λ b. v ++ (b ∷ [])) (filter (extends P v) (range 0 P.atoms)) n in
      rw (← j.2, ← k.2) (precedes_append w v (j.0 ∷ []) (k.0 ∷ []) e)

  chains_of_sorted : (k : ℕ) → Sorted precedes (chains_of P k)
  unfolding chains_of
  chains_of_sorted zero = sorted_map ltb precedes (λ a. a ∷ []) (range 0 P.atoms) (λ a b t. precedes_less a b [] [] (ltb-true a b t)) (sorted_range 0 P.atoms)
  chains_of_sorted (suc k) = sorted_flat_map precedes precedes (longer P) (chains_of P k) (chains_of_sorted k) (λ w _. longer_sorted w) (λ w v _ _ e. longer_across w v e)

  chains_sorted : Sorted before (chains P)
  unfolding chains
  chains_sorted =
      sorted_flat_map ltb before (chains_of P) (range 0 P.atoms) (sorted_range 0 P.atoms)
      (λ k _. sorted_imp precedes before (chains_of P k) (λ w v m n. precedes_equal (length w) (length v) w v ((chains_of_out P wf k w m).1 ∙ sym (chains_of_out P wf k v n).1))
      (chains_of_sorted k))
      (λ j k _ _ e w v m n. let l = ltb-true j k e in precedes_less (length w) (length v) w v (omega (arith, (chains_of_out P wf j w m).1, (chains_of_out P wf k v n).1)))

  module _ (s : List ℕ) where
    missing_in : (w : List ℕ) → Chain P w → (Sublistᴰ w s → ⊥) → Memᴰ w (missing_chains P s)
    unfolding missing_chains
    missing_in w C lacking = filter_in (λ w. not (found w s)) (chains P) w (chains_in P w C) (not_intro (is_false (λ t. lacking (found_out w s t))))

    missing_out : (w : List ℕ) → Memᴰ w (missing_chains P s) → Chain P w × (Sublistᴰ w s → ⊥)
    unfolding missing_chains
    missing_out w m = let r = filter_out (λ w. not (found w s)) (chains P) w m in (chains_out P wf w r.0, λ h. true_false (found_in w s h) (not_elim r.1))

    -- Where a chain is missing, the missing chain is one, and no missing chain is before it.
    missing_first : (w : List ℕ) → Chain P w → (Sublistᴰ w s → ⊥) → Memᴰ (missing_chain P s) (missing_chains P s) × (before w (missing_chain P s) ≡ false)
    unfolding missing_chain missing_chains
    missing_first w C lacking =
        sorted_first before (λ w v. precedes_once (length w ∷ w) (length v ∷ v)) (missing_chains P s)
        (sorted_filter before (λ w. not (found w s)) (chains P) chains_sorted) [] w (missing_in w C lacking)

    pub missing_shortest : passes P s ≡ false → ShortestMissing P s (missing_chain P s)
    unfolding passes
    missing_shortest e =
        let u = all_fails (λ w. found w s) (chains P) e in
        let o = missing_out (missing_chain P s) (missing_first u.0 (chains_out P wf u.0 u.1) (λ h. true_false (found_in u.0 s h) u.2)).0 in
        record {
          chain = o.0;
          lacking = o.1;
          shortest = λ v C l. by_bool (found v s) (found_out v s) (λ f. absurd (true_false (precedes_less (length v) (length (missing_chain P s)) v (missing_chain P s) l)
              (missing_first v C (λ h. true_false (found_in v s h) f)).1));
          first = λ v C lacking n. is_false (λ t. true_false (precedes_equal (length v) (length (missing_chain P s)) v (missing_chain P s) n t) (missing_first v C lacking).1);
        }

    pub missing_there : (missing_chain P s ≢ []) ↔ (passes P s ≡ false)
    unfolding missing_chain missing_chains passes
    missing_there = (
      λ some. is_false (λ e. some (ap (λ l. get_or l 0 []) (filter_none (λ w. not (found w s)) (chains P) (λ w m. ap not (all_at (λ w. found w s) (chains P) e w m))))),
      λ e. (missing_shortest e).chain.some,
    )

    -- Its length is the least of the missing chains.
    pub missing_length : (m : ℕ) → ((v : List ℕ) → Chain P v → length v < m → Sublistᴰ v s) → (((v : List ℕ) → Chain P v → length v ≡ m → Sublistᴰ v s) → ⊥)
        → length (missing_chain P s) ≡ m
    missing_length m shorter some =
        let M = missing_shortest (is_false (λ e. some (λ v C _. (passes_iff P wf s).0 e v C))) in
        let n = length (missing_chain P s) in
        le_antisymm (ltb-false m n (is_false (λ t. some (λ v C q. M.shortest v C (omega (arith, ltb-true m n t))))))
        (ltb-false n m (is_false (λ t. M.lacking (shorter (missing_chain P s) M.chain (ltb-true n m t)))))

    pub shortest_only : (w : List ℕ) → ShortestMissing P s w → w ≡ missing_chain P s
    shortest_only w S =
        let M = missing_shortest (is_false (λ e. S.lacking ((passes_iff P wf s).0 e w S.chain))) in
        let n = missing_length (length w) S.shortest (λ h. S.lacking (h w S.chain refl)) in
        precedes_same w (missing_chain P s) (sym n) (M.first w S.chain S.lacking (sym n)) (S.first (missing_chain P s) M.chain M.lacking n)
