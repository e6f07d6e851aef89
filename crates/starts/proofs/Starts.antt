-- Laws of where a missing chain starts.
use mathlib.Core.Bool.{Bool, true, false}
use mathlib.Core.List.Memᴰ
use mathlib.Core.List.{List, ◌∷◌, Sublistᴰ}
use mathlib.Core.Path.{◌≡◌, refl, sym, ◌∙◌, ap, subst}
use Prim.Native.Nat.{ℕ, ◌-◌, ◌≤◌, ◌<◌}
use native.Mathlib.Omega.{arith}
use borrow.Author.Tests.{eqb-true, eqb-false, ltb-true, ltb-false}
use Rattle.std.specs.Prelude.{Some, None}
use lib.Dec.{eqb, ltb}
use lib.ListN.{length, get_or}
use Rattle.lists.specs.Lists.{range}
use Rattle.lists.proofs.Bools.{by_bool, true_false, is_true}
use Rattle.lists.proofs.Members.{below_at, range_in}
use Rattle.lists.proofs.Nodup.{nodup_le, length_range}
use Rattle.asp.specs.Program.{Program}
use Rattle.unfolding.specs.Graph.{component}
use Rattle.unfolding.specs.Chain.{Chain}
use Rattle.bits.specs.inner.Sets.{Subset}
use Rattle.bits.specs.inner.Visited.{listed, Lowest}
use Rattle.bits.proofs.Visiting.{has_some}
use Rattle.bits.proofs.Listing.{listed_rising, listed_own, listed_differ}
use Rattle.chain_rows.specs.inner.Subsets.{Roomy, Setting, Power}
use Rattle.chain_rows.proofs.Places.{full_places, full_small}
use Rattle.chain_table.specs.inner.Filled.{Filled}
use Rattle.chains.specs.inner.Components.{Edged, Members}
use Rattle.chains.proofs.Testing.{whole_atoms, filled_tested}
use Rattle.chains.proofs.Components.{setting, named_place, atom_named, places_roomy, set_tested}
use Rattle.missing_places.specs.inner.Lacking.{Lacks, Lacking, Shortest}
use Rattle.starts.specs.declared.Start.{Start}
use Rattle.starts.specs.inner.Starts.{Begins, StartIn, ComponentStart}
use Rattle.starts.proofs.Sets.{found_unless, lacking_fails}

module _ (P : Program) (s : List ℕ) (C : ℕ → Type 0) where
  -- Where every chain is found.
  pub start_none : ((b : ℕ) (w : List ℕ) → C b → Chain P (b ∷ w) → Sublistᴰ (b ∷ w) s) → StartIn P s C None
  start_none found = record { none = λ _. found; some = λ a e. cc }

  -- Where one is not.
  pub start_some : (r : Start) → Begins P s C r → StartIn P s C (Some r)
  start_some r B = record { none = λ e. cc; some = λ a e. subst (Begins P s C) (let i : r ≡ a = cc in i) B }

-- The table of a component, its atoms listed.
module _ (x : ℕ) (L : List ℕ) (S : L ≡ listed x) (P : Program) (c : ℕ) (rows : List ℕ) (G : Edged P rows) (M : Members P c x) (s table : List ℕ) (T : Filled rows L (length L) s table)
    (size : ℕ) (N : Power (length L) size) (few : length L ≤ 10) where
  abbrev atom : ℕ → ℕ
  atom p = get_or L p 0

  abbrev k : ℕ
  k = length L

  K : Setting P rows L (length L)
  K = setting x L S P c rows G M

  abbrev full : ℕ
  full = size - 1

  -- The chains from an atom of which no set of at most m places lacks the place.
  module _ (m b : ℕ) (e : component P b ≡ c) (w : List ℕ) (C : Chain P (b ∷ w)) (l : length (b ∷ w) ≤ m) where
    found_at : ((p : ℕ) → p < k → atom p ≡ b → (U : ℕ) → U ≤ full → Lacks table full m p U → ⊥) → Sublistᴰ (b ∷ w) s
    found_at none =
        let u = named_place x L S P c rows G M b (below_at P.atoms (b ∷ w) C.atoms b (Memᴰ.head refl)) e in
        let D = subst (λ y. Chain P (y ∷ w)) (sym u.2) C in
        subst (λ y. Sublistᴰ (y ∷ w) s) u.2
        (found_unless P rows L k K few table s (T.is P K) full m u.0 (full_small k size N) u.1 (none u.0 u.1 u.2) w D
        (whole_atoms P rows L k K size N u.0 u.1 w D) l)

  module _ (m places : ℕ) (H : Shortest table full k m) (A : Lacking table full m places) where
    shorter_found : (b : ℕ) (w : List ℕ) → component P b ≡ c → Chain P (b ∷ w) → length (b ∷ w) < m → Sublistᴰ (b ∷ w) s
    shorter_found b w e C l = found_at (length (b ∷ w)) b e w C (omega arith) (λ p _ _. H.none (length (b ∷ w)) l p)

    module _ (d : ℕ) (Z : Lowest places d) where
      lowest_place : d < k
      lowest_place = let u = A.out d Z.is in ltb-true d k (sym (full_places k size N d) ∙ u.2.inside d u.2.own)

      some_begins : Begins P s (λ b. component P b ≡ c) (record { length = m; atom = atom d; set = x })
      some_begins =
          record {
            shorter = shorter_found;
            lower = λ b w e C g l. found_at m b e w C (omega arith) (λ p h i U j J. true_false (A.back p U j J) (Z.first p (before p h (let n : atom p < atom d = omega arith in n))));
            lacks = λ all.
                let u = A.out d Z.is in
                lacking_fails P rows L k K few table s (T.is P K) full m d (full_small k size N) lowest_place u.0 u.1 u.2 (λ w C i l.
                by_bool (ltb (length (atom d ∷ w)) m) (λ h. shorter_found (atom d) w named C (ltb-true (length (atom d ∷ w)) m h))
                (λ h. let n = ltb-false (length (atom d ∷ w)) m h in all w C (omega arith)));
            low = K.low d lowest_place;
            whole = subst (λ n. Members P n x) (sym named) M;
          }
        where
          named : component P (atom d) ≡ c
          named = atom_named x L S P c rows G M d lowest_place

          before : (p : ℕ) → p < k → atom p < atom d → p < d
          before p h n =
              by_bool (ltb p d) (λ l. ltb-true p d l)
              (λ l. by_bool (eqb p d) (λ e. let g = ap atom (eqb-true p d e) in absurd (omega arith))
              (λ e. let j = ltb-false p d l in let ne = eqb-false p d e in let r = (listed_rising x L S).rises d p (omega arith) h in absurd (omega arith)))

-- The table has a row for the whole component.
pub whole_row : (x : ℕ) (L : List ℕ) → L ≡ listed x → (size rows r : ℕ) → Power (length L) size → Roomy (length (listed x)) rows → r ≡ rows → size - 1 < r
whole_row x L S size rows r N R e = let room = (places_roomy x L S rows R).room in let is = N.is in let some = N.some in omega arith

-- A component's start, as the code has it.
module _ (x : ℕ) (L : List ℕ) (S : L ≡ listed x) (rows s table : List ℕ) (T : Filled rows L (length L) s table) (size : ℕ) (N : Power (length L) size) where
  pub component_none : (b : Bool) → Subset (size - 1) (get_or table (size - 1) 0) b → b ≡ true → ComponentStart rows x s None
  component_none b B e =
      record {
        is = λ P c G M.
            let all = ((set_tested x L S rows s b (filled_tested rows L (length L) s size table b T N B)).is P c G M).is.0 e in
            start_none P s (λ b. component P b ≡ c) (λ b w d C. all b w C d);
      }

module _ (x : ℕ) (L : List ℕ) (S : L ≡ listed x) (rows s table : List ℕ) (T : Filled rows L (length L) s table) (size : ℕ) (N : Power (length L) size) (room : ℕ) (R : Roomy (length (listed x)) room)
    (m places : ℕ) (H : Shortest table (size - 1) (length L) m) (A : Lacking table (size - 1) m places) where
  abbrev few : length L ≤ 10
  few = (places_roomy x L S room R).few

  -- The row of the whole component lacks a place, so some set of at most m places does.
  module _ (z : places ≡ 0) where
    nothing : (p U : ℕ) → U ≤ size - 1 → Lacks table (size - 1) m p U → ⊥
    nothing p U l J = let h = has_some places p (A.back p U l J) in omega arith

    whole_few : length (listed (size - 1)) ≤ m
    whole_few =
        by_bool (ltb m (length L)) (λ l. let u = H.some (ltb-true m (length L) l) in absurd (nothing u.0 u.1 u.2 u.3))
        (λ l.
        let short = nodup_le (listed (size - 1)) (range 0 (length L)) (listed_differ (size - 1))
        (λ p n. let j = ltb-true p (length L) (sym (full_places (length L) size N p) ∙ listed_own (size - 1) p n) in range_in 0 (length L) p (omega arith) (omega arith)) in
        let long = length_range 0 (length L) in
        let k = ltb-false m (length L) l in
        omega arith)

    whole_found : (b : Bool) → Subset (size - 1) (get_or table (size - 1) 0) b → b ≡ true
    whole_found b B = B.all_inside (λ p t. is_true (λ g. nothing p (size - 1) (omega arith) (record { inside = λ q h. h; few = whole_few; own = t; lacks = g })))

  pub places_some : (b : Bool) → Subset (size - 1) (get_or table (size - 1) 0) b → b ≡ false → 0 < places
  places_some b B f = by_bool (eqb places 0) (λ e. absurd (true_false (whole_found (eqb-true places 0 e) b B) f)) (λ e. let ne = eqb-false places 0 e in omega arith)

  module _ (d : ℕ) (Z : Lowest places d) where
    pub place_index : d < length L
    place_index = let u = A.out d Z.is in ltb-true d (length L) (sym (full_places (length L) size N d) ∙ u.2.inside d u.2.own)

    pub component_some : (a : ℕ) → a ≡ get_or L d 0 → ComponentStart rows x s (Some (record { length = m; atom = a; set = x }))
    component_some a e =
        record {
          is = λ P c G M.
              start_some P s (λ b. component P b ≡ c) (record { length = m; atom = a; set = x })
              (subst (λ a. Begins P s (λ b. component P b ≡ c) (record { length = m; atom = a; set = x })) (sym e) (some_begins x L S P c rows G M s table T size N few m places H A d Z));
        }
