-- Laws of the table: an entry more.
use mathlib.Core.Bool.{Bool, true, not, ◌&&◌, ◌||◌, or-false}
use mathlib.Core.List.{List, ◌∷◌}
use mathlib.Core.Logic.{◌↔◌, ⊎_elim}
use mathlib.Core.Path.{◌≡◌, refl, sym, ◌∙◌, ap, subst}
use Prim.Native.Nat.{ℕ, ◌^◌, ◌<◌}
use native.Mathlib.Omega.{arith}
use borrow.Author.Tests.{eqb-true, eqb-false, eq-eqb, ne_eqb, lt-ltb, ltb-true}
use lib.Dec.{eqb, ltb}
use lib.ListN.{length, get_or}
use Rattle.std.specs.Prelude.{Some, None, position}
use Rattle.lists.proofs.Bools.{by_bool, true_false, and_intro, and_left, and_right, or_cases, or_right, not_intro, not_elim}
use Rattle.asp.specs.Program.{Program}
use Rattle.unfolding.specs.Graph.{edge, same_component}
use Rattle.unfolding.specs.inner.Started.{Started}
use Rattle.unfolding.proofs.Starting.{started_more, started_other, started_onward, started_own}
use Rattle.bits.specs.inner.Sets.{has}
use Rattle.chain_rows.specs.inner.Subsets.{Setting, AtPlaces, SubsetTable, RowAfter, TableAfter, Followers, Power, WithEntry}
use Rattle.bits.proofs.Places.{place_own, place_none}

module _ (P : Program) (rows atoms : List ℕ) (k : ℕ) (K : Setting P rows atoms k) where
  abbrev atom : ℕ → ℕ
  atom p = get_or atoms p 0

  -- An entry of another atom.
  table_other : (table s : List ℕ) (x : ℕ) → ((q : ℕ) → q < k → get_or atoms q 0 ≡ x → ⊥) → SubsetTable P atoms k table s → SubsetTable P atoms k table (x ∷ s)
  table_other table s x none T =
      record {
        right = λ S l p m e. (
          λ t. started_more P K.formed x s (AtPlaces atoms k S) (atom p) ((T.right S l p m e).0 t),
          λ D. (T.right S l p m e).1 (started_other P K.formed x s (AtPlaces atoms k S) (atom p) (λ q. none p m (sym q)) D),
        );
      }

  -- The places that an atom has edges to.
  module _ (x after : ℕ) (F : Followers rows atoms k x after) where
    pub follows : (q : ℕ) → q < k → edge P x (atom q) ≡ true → has after q ≡ true
    follows q l e = F.members q ∙ and_intro (lt-ltb q k l) (K.edges (atom q) (K.low q l) x ∙ e)

    pub followed : (q : ℕ) → has after q ≡ true → (q < k) × (edge P x (atom q) ≡ true)
    followed q t =
        let u = sym (F.members q) ∙ t in
        let l = ltb-true q k (and_left (ltb q k) (has (get_or rows (atom q) 0) x) u) in
        (l, sym (K.edges (atom q) (K.low q l) x) ∙ and_right (ltb q k) (has (get_or rows (atom q) 0) x) u)

  -- A set without the place of x has its other atoms.
  module _ (S W i x : ℕ) (low : i < k) (is : get_or atoms i 0 ≡ x) (without : (q : ℕ) → has W q ≡ (has S q && not (eqb q i))) where
    pub fewer_atoms : (b : ℕ) → AtPlaces atoms k W b → AtPlaces atoms k S b × (b ≡ x → ⊥)
    fewer_atoms b u =
        let o = sym (without u.0) ∙ u.3 in (
          (u.0, u.1, u.2, and_left (has S u.0) (not (eqb u.0 i)) o),
          λ f. true_false (eq-eqb u.0 i (K.apart u.0 i u.1 low (u.2 ∙ (f ∙ sym is)))) (not_elim (and_right (has S u.0) (not (eqb u.0 i)) o)),
        )

    pub other_atoms : (b : ℕ) → AtPlaces atoms k S b → (b ≡ x → ⊥) → AtPlaces atoms k W b
    other_atoms b u ne = (u.0, u.1, u.2, without u.0 ∙ and_intro u.3 (not_intro (ne_eqb u.0 i (λ f. ne (sym u.2 ∙ (ap atom f ∙ is))))))

  -- An entry of the atom at place i.
  module _ (old new s : List ℕ) (x i after size : ℕ) (low : i < k) (is : get_or atoms i 0 ≡ x) (F : Followers rows atoms k x after) (N : Power k size)
      (A : TableAfter old size i after new) (T : SubsetTable P atoms k old s) where
    x_joined : (q : ℕ) → q < k → same_component P x (atom q) ≡ true
    x_joined q l = subst (λ y. same_component P y (atom q) ≡ true) is (K.joined i q low l)

    module _ (S : ℕ) (l : S < 2 ^ k) where
      abbrev R : RowAfter old S i after (get_or new S 0)
      R = A.rows S (let e = N.is in omega arith)

      abbrev W : ℕ
      W = R.less

      w_low : W < 2 ^ k
      w_low = let f = R.falls in omega arith

      -- At place i itself.
      module _ (e : has S i ≡ true) where
        own_found : has (get_or new S 0) i ≡ true → Started P (x ∷ s) (AtPlaces atoms k S) x
        own_found t =
            ⊎_elim (λ u. started_more P K.formed x s (AtPlaces atoms k S) x (subst (Started P s (AtPlaces atoms k S)) is ((T.right S l i low e).0 u)))
            (λ u. let c = and_right (has S i) R.covered (and_right (eqb i i) (has S i && R.covered) u) in
            started_own P K.formed x s (AtPlaces atoms k S) (AtPlaces atoms k W) (other_atoms S W i x low is R.without)
            (λ b g h u. subst (Started P s (AtPlaces atoms k W)) u.2
            ((T.right W w_low u.0 u.1 u.3).0 ((R.asked e).0 c u.0 (follows x after F u.0 u.1 (subst (λ y. edge P x y ≡ true) (sym u.2) g)) u.3))))
            (or_cases (has (get_or old S 0) i) (eqb i i && (has S i && R.covered)) (sym (R.members i) ∙ t))

        own_in : Started P (x ∷ s) (AtPlaces atoms k S) x → has (get_or new S 0) i ≡ true
        own_in D =
            let c = (R.asked e).1 (λ q g h. let f = followed x after F q g in
            (T.right W w_low q f.0 h).1
            (started_onward P K.formed x s (AtPlaces atoms k S) (AtPlaces atoms k W) (subst (λ y. y < P.atoms) is (K.low i low)) (i, low, is, e) (fewer_atoms S W i x low is R.without) D (atom q) f.1 (x_joined q f.0))) in
            R.members i ∙ or_right (has (get_or old S 0) i) (and_intro (eq-eqb i i refl) (and_intro e c))

      -- At another place.
      module _ (p : ℕ) (m : p < k) (ne : p ≡ i → ⊥) where
        kept : has (get_or new S 0) p ≡ has (get_or old S 0) p
        kept = R.members p ∙ (ap (λ (y : Bool). has (get_or old S 0) p || y && (has S i && R.covered)) (ne_eqb p i ne) ∙ or-false (has (get_or old S 0) p))

        differs : x ≡ atom p → ⊥
        differs f = ne (K.apart p i m low (sym f ∙ sym is))

    table_own : SubsetTable P atoms k new (x ∷ s)
    table_own =
        record {
          right = λ S l p m e. by_bool (eqb p i) (λ t. here S l p m e (eqb-true p i t)) (λ t. there S l p m e (eqb-false p i t));
        }
      where
        here : (S : ℕ) → S < 2 ^ k → (p : ℕ) → p < k → has S p ≡ true → p ≡ i → (has (get_or new S 0) p ≡ true) ↔ Started P (x ∷ s) (AtPlaces atoms k S) (atom p)
        here S l p m e q =
            let f : has S i ≡ true = ap (has S) (sym q) ∙ e in
            let a : atom p ≡ x = ap atom q ∙ is in (
              λ t. subst (Started P (x ∷ s) (AtPlaces atoms k S)) (sym a) (own_found S l f (ap (has (get_or new S 0)) (sym q) ∙ t)),
              λ D. ap (has (get_or new S 0)) q ∙ own_in S l f (subst (Started P (x ∷ s) (AtPlaces atoms k S)) a D),
            )

        there : (S : ℕ) → S < 2 ^ k → (p : ℕ) → p < k → has S p ≡ true → (p ≡ i → ⊥) → (has (get_or new S 0) p ≡ true) ↔ Started P (x ∷ s) (AtPlaces atoms k S) (atom p)
        there S l p m e ne = (
          λ t. started_more P K.formed x s (AtPlaces atoms k S) (atom p) ((T.right S l p m e).0 (sym (kept S l p m ne) ∙ t)),
          λ D. kept S l p m ne ∙ (T.right S l p m e).1 (started_other P K.formed x s (AtPlaces atoms k S) (atom p) (differs S l p m ne) D),
        )

module _ (rows atoms : List ℕ) (x : ℕ) where
  pub with_own : (old new : List ℕ) (p after size : ℕ) → position (λ a. eqb a x) atoms ≡ Some p → Followers rows atoms (length atoms) x after → Power (length atoms) size → TableAfter old size p after new → WithEntry rows atoms (length atoms) x old new
  with_own old new p after size e F E A =
      let u = place_own atoms x p e in
      record { turns = λ P s K T. table_own P rows atoms (length atoms) K old new s x p after size u.0 u.1 F E A T }

  pub with_other : (old : List ℕ) → position (λ a. eqb a x) atoms ≡ None → WithEntry rows atoms (length atoms) x old old
  with_other old e = record { turns = λ P s K T. table_other P rows atoms (length atoms) K old s x (place_none atoms x e) T }
