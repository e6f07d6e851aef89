-- Laws of an extension and the one behind it.
use mathlib.Core.Bool.{true, false}
use mathlib.Core.List.Memᴰ
use mathlib.Core.List.{List, [], ◌∷◌, Memᴰ, Sublistᴰ}
use mathlib.Core.Logic.{⊎_elim}
use mathlib.Core.Path.{◌≡◌, refl, sym, ◌∙◌, ap, subst}
use Prim.Native.Nat.{ℕ, suc, ◌-◌, ◌^◌, ◌≤◌, ◌<◌}
use native.Mathlib.Omega.{arith}
use borrow.Author.Tests.{eqb-true, eqb-false, ltb-true, ltb-false}
use lib.Dec.{eqb, ltb}
use lib.ListN.{length, get_or, drop}
use Rattle.lists.proofs.Bools.{by_bool, true_false, and_intro, and_left, and_right}
use Rattle.lists.proofs.Nodup.{nodup_head}
use Rattle.lists.proofs.Sublists.{mem_sublist}
use Rattle.asp.specs.Program.{Program}
use Rattle.unfolding.specs.Graph.{edge}
use Rattle.unfolding.specs.Chain.{Chain}
use Rattle.unfolding.specs.Missing.{precedes}
use Rattle.unfolding.proofs.Chains.{chain_one, chain_tail}
use Rattle.unfolding.proofs.Missing.{precedes_not, precedes_tail}
use Rattle.unfolding.proofs.Starting.{chain_front, chain_edge, chain_joined}
use Rattle.bits.specs.inner.Sets.{has, Without, Both}
use Rattle.bits.specs.inner.Listed.{RisesTo}
use Rattle.bits.specs.inner.Visited.{Lowest}
use Rattle.bits.proofs.Digits.{zero_has}
use Rattle.chain_rows.specs.inner.Subsets.{Setting, AtPlaces, SubsetTable, Followers}
use Rattle.chain_rows.proofs.Turning.{follows, followed, fewer_atoms, other_atoms}
use Rattle.missing_places.specs.inner.Lacking.{Lacking}
use Rattle.positions.specs.inner.Positions.{Behind}
use Rattle.starts.proofs.Sets.{found_unless, lacking_fails}
use Rattle.missing.specs.declared.Extension.{Extension}
use Rattle.missing.specs.inner.Extending.{Within, LacksFrom, FirstMissing, Fits, LacksAt, FirstAt}

-- The last atom.
pub first_last : (P : Program) (s : List ℕ) (X : ℕ → Type 0) (a : ℕ) → Chain P (a ∷ []) → X a → LacksFrom P s X a 1 → FirstMissing P s X a 1 []
unfolding precedes
first_last P s X a C x D =
    record {
      within = record { chain = C; inside = λ b m. subst X (sym (Memᴰ.eq_of_singleton m)) x; long = refl };
      lacking = λ f. D.lacks (only f);
      first = order;
    }
  where
    only : Sublistᴰ (a ∷ []) s → (w : List ℕ) → Within P X a 1 w → Sublistᴰ (a ∷ w) s
    only f [] I = f
    only f (b ∷ w) I = absurd (let e = I.long in omega arith)

    order : (v : List ℕ) → Within P X a 1 v → (Sublistᴰ (a ∷ v) s → ⊥) → precedes (a ∷ v) (a ∷ []) ≡ false
    order [] I f = precedes_tail a [] []
    order (b ∷ v) I f = absurd (let e = I.long in omega arith)

-- An extension at which a chain is missing, what is behind its atom in the sequence, and the other places.
module _ (P : Program) (rows atoms : List ℕ) (k : ℕ) (K : Setting P rows atoms k) (few : k ≤ 10) (q : List ℕ) (L : Extension) (F : Fits k q L) (more : 1 < L.left) (D : LacksAt P atoms k q L) where
  abbrev atom : ℕ → ℕ
  atom p = get_or atoms p 0

  abbrev x : ℕ
  x = get_or atoms L.place 0

  abbrev s : List ℕ
  s = drop L.from q

  abbrev X : ℕ → Type 0
  X = AtPlaces atoms k L.unused

  abbrev left : ℕ
  left = L.left - 1

  module _ (next : ℕ) (B : Behind q L.from x next) (less : ℕ) (W : Without L.unused L.place less) where
    abbrev t : List ℕ
    t = drop next q

    abbrev Y : ℕ → Type 0
    Y = AtPlaces atoms k less

    x_low : x < P.atoms
    x_low = K.low L.place F.low

    x_in : X x
    x_in = (L.place, F.low, refl, F.own)

    less_small : less < 2 ^ k
    less_small = let h = W.falls in let l = F.small in omega arith

    y_out : (b : ℕ) → Y b → X b × (b ≡ x → ⊥)
    y_out = fewer_atoms P rows atoms k K L.unused less L.place x F.low refl W.members

    y_in : (b : ℕ) → X b → (b ≡ x → ⊥) → Y b
    y_in = other_atoms P rows atoms k K L.unused less L.place x F.low refl W.members

    -- The atom itself is there, or it would be a shorter chain that is not found.
    x_there : Memᴰ x s
    x_there =
        mem_sublist
        (D.shorter 1 (omega arith) [] (record { chain = chain_one P K.formed x x_low; inside = λ b m. subst X (sym (Memᴰ.eq_of_singleton m)) x_in; long = refl }))
        (Memᴰ.head refl)

    -- A chain behind it, with it in front.
    longer : (p : ℕ) → p < k → edge P x (atom p) ≡ true → (j m : ℕ) (w : List ℕ) → m ≡ suc j → Within P Y (atom p) j w → Within P X x m (atom p ∷ w)
    longer p l e j m w size I =
        record {
          chain = chain_front P K.formed x (atom p) w x_low e (K.joined L.place p F.low l) I.chain (λ m. (y_out x (I.inside x m)).1 refl);
          inside = λ y m. ⊎_elim (λ h. subst X (sym h) x_in) (λ h. (y_out y (I.inside y h)).0) (Memᴰ.cases_cons m);
          long = let e = I.long in omega arith;
        }

    -- And without it.
    record Tail (w : List ℕ) : Type 0 where
      at : ℕ
      rest : List ℕ
      under : at < k
      is : w ≡ atom at ∷ rest
      goes : edge P x (atom at) ≡ true
      within : Within P Y (atom at) left rest

    tail : (w : List ℕ) → Within P X x L.left w → Tail w
    tail [] I = absurd (let e = I.long in omega arith)
    tail (b ∷ w) I =
        let C = I.chain in
        let u = K.whole L.place F.low b (chain_joined P x b w C) in
        let other : (y : ℕ) → Memᴰ y (b ∷ w) → Y y = λ y m. y_in y (I.inside y (Memᴰ.tail m)) (λ e. nodup_head C.different (subst (λ z. Memᴰ z (b ∷ w)) e m)) in
        record {
          at = u.0;
          rest = w;
          under = u.1;
          is = ap (λ c. c ∷ w) (sym u.2);
          goes = subst (λ c. edge P x c ≡ true) (sym u.2) (chain_edge P x b w C);
          within =
              subst (λ c. Within P Y c left w) (sym u.2)
              (record { chain = chain_tail P x b w C; inside = other; long = let e = I.long in omega arith });
        }

    shorter : (p : ℕ) → p < k → edge P x (atom p) ≡ true → (j : ℕ) → j < left → (w : List ℕ) → Within P Y (atom p) j w → Sublistᴰ (atom p ∷ w) t
    shorter p l e j h w I = B.onward (atom p ∷ w) (D.shorter (suc j) (omega arith) (atom p ∷ w) (longer p l e j (suc j) w refl I))

    -- The places that follow and from which a chain is lacking.
    module _ (table : List ℕ) (filled : SubsetTable P atoms k table t) (after r both : ℕ) (G : Followers rows atoms k x after) (N : Lacking table less left r) (M : Both after r both) where
      found_tail : (w : List ℕ) (T : Tail w) → has both T.at ≡ false → Sublistᴰ (x ∷ w) s
      found_tail w T f =
          let I = T.within in
          let goes = follows P rows atoms k K x after G T.at T.under T.goes in
          let behind = found_unless P rows atoms k K few table t filled less left T.at less_small T.under
          (λ S l L. true_false (M.members T.at ∙ and_intro goes (N.back T.at S l L)) f) T.rest I.chain I.inside (let e = I.long in omega arith) in
          subst (λ v. Sublistᴰ (x ∷ v) s) (sym T.is) (B.back (atom T.at ∷ T.rest) x_there behind)

      pub some_place : 0 < both
      some_place =
          by_bool (eqb both 0) (λ z. absurd (D.lacks (λ w I. let T = tail w I in found_tail w T (ap (λ n. has n T.at) (eqb-true both 0 z) ∙ zero_has T.at))))
          (λ f. let ne = eqb-false both 0 f in omega arith)

      module _ (d : ℕ) (A : Lowest both d) where
        goes : (d < k) × (edge P x (atom d) ≡ true)
        goes = followed P rows atoms k K x after G d (and_left (has after d) (has r d) (sym (M.members d) ∙ A.is))

        pub next_lacks : LacksFrom P t Y (atom d) left
        next_lacks =
            record {
              shorter = shorter d goes.0 goes.1;
              lacks = λ all.
                  let u = N.out d (and_right (has after d) (has r d) (sym (M.members d) ∙ A.is)) in
                  lacking_fails P rows atoms k K few table t filled less left d less_small goes.0 u.0 u.1 u.2 (λ w C i l.
                  by_bool (ltb (length (atom d ∷ w)) left)
                  (λ h. shorter d goes.0 goes.1 (length (atom d ∷ w)) (ltb-true (length (atom d ∷ w)) left h) w (record { chain = C; inside = i; long = refl }))
                  (λ h. let m = ltb-false (length (atom d ∷ w)) left h in all w (record { chain = C; inside = i; long = omega arith })));
            }

        pub next_first : RisesTo atoms k → (w : List ℕ) → FirstMissing P t Y (atom d) left w → FirstAt P atoms k q L (atom d ∷ w)
        next_first R w H =
            record {
              within = longer d goes.0 goes.1 left L.left w (omega arith) H.within;
              lacking = λ f. H.lacking (B.onward (atom d ∷ w) f);
              first = λ v I f. precedes_tail x v (atom d ∷ w) ∙ order v (tail v I) f;
            }
          where
            order : (v : List ℕ) → Tail v → (Sublistᴰ (x ∷ v) s → ⊥) → precedes v (atom d ∷ w) ≡ false
            order v T f =
                by_bool (ltb T.at d) (λ l. absurd (f (found_tail v T (A.first T.at (ltb-true T.at d l)))))
                (λ l. by_bool (eqb T.at d)
                (λ e. ap (λ u. precedes u (atom d ∷ w)) (T.is ∙ ap (λ p. atom p ∷ T.rest) (eqb-true T.at d e))
                ∙ H.first T.rest (subst (λ p. Within P Y (atom p) left T.rest) (eqb-true T.at d e) T.within)
                (λ g. f (subst (λ u. Sublistᴰ (x ∷ u) s) (sym (T.is ∙ ap (λ p. atom p ∷ T.rest) (eqb-true T.at d e))) (B.back (atom d ∷ T.rest) x_there g))))
                (λ e. let above = ltb-false T.at d l in let ne = eqb-false T.at d e in
                ap (λ u. precedes u (atom d ∷ w)) T.is ∙ precedes_not (atom d) (atom T.at) T.rest w (R.rises d T.at (omega arith) T.under)))
