-- Laws of the chain that is written from its start.
use mathlib.Core.Bool.{false}
use mathlib.Core.List.{List, [], ◌∷◌, Memᴰ, Sublistᴰ}
use mathlib.Core.Path.{◌≡◌, refl, sym, ◌∙◌, subst}
use Prim.Native.Nat.{ℕ, ◌-◌, ◌≤◌, ◌<◌}
use native.Mathlib.Omega.{arith}
use borrow.Author.Tests.{eqb-true, eqb-false, ltb-true, ltb-false, lt-ltb}
use lib.Dec.{eqb, ltb}
use lib.ListN.{length, get_or, drop}
use Rattle.std.specs.Prelude.{Option, Some, None, IsSome, position}
use borrow.Author.Rules.{rules}
use Rattle.lists.proofs.Bools.{by_bool}
use Rattle.lists.proofs.Members.{below_at}
use Rattle.asp.specs.Program.{Program}
use Rattle.unfolding.specs.Graph.{component}
use Rattle.unfolding.specs.Chain.{Chain}
use Rattle.unfolding.specs.Missing.{ShortestMissing, precedes}
use Rattle.unfolding.proofs.Missing.{precedes_not}
use Rattle.bits.specs.inner.Visited.{listed}
use Rattle.bits.proofs.Places.{place_own, place_none}
use Rattle.chain_rows.specs.inner.Subsets.{Setting, AtPlaces, Power}
use Rattle.chain_rows.proofs.Places.{full_places, full_small}
use Rattle.chains.specs.inner.Components.{Edged, Members}
use Rattle.chains.proofs.Testing.{whole_atoms}
use Rattle.chains.proofs.Components.{setting, named_place}
use Rattle.positions.specs.inner.Positions.{Position}
use Rattle.starts.specs.declared.Start.{Start}
use Rattle.starts.specs.inner.Starts.{Begins}
use Rattle.missing.specs.declared.Extension.{Extension}
use Rattle.missing.specs.inner.Extending.{Fits, LacksAt, FirstAt, SomeLacks, ChainPut}
use Rattle.missing.specs.inner.Missing.{SomeMissing, MissingPut}

-- The first atom of a chain is in its component, so it has a place there.
pub place_some : (rows s : List ℕ) (start : Start) (L : List ℕ) → L ≡ listed start.set → SomeMissing rows s start → (r : Option ℕ) → r ≡ position (λ b. eqb b start.atom) L → IsSome r
place_some rows s start L S X (Some p) e = search rules
place_some rows s start L S X None e =
    let P = X.program in
    let B = X.begins in
    let u = named_place start.set L S P (component P start.atom) rows X.edged B.whole start.atom B.low refl in
    absurd (place_none L start.atom (sym e) u.0 u.1 u.2)

-- The chain from the start that was found.
module _ (rows q : List ℕ) (start : Start) (L : List ℕ) (S : L ≡ listed start.set) (p size : ℕ) (A : position (λ b. eqb b start.atom) L ≡ Some p) (N : Power (length L) size) where
  abbrev extension : Extension
  extension = record { from = 3; unused = size - 1; place = p; left = start.length }

  module _ (P : Program) (G : Edged P rows) (B : Begins P (drop 3 q) (λ b. b < P.atoms) start) where
    M : Members P (component P start.atom) start.set
    M = B.whole

    start_setting : Setting P rows L (length L)
    start_setting = setting start.set L S P (component P start.atom) rows G M

    start_low : p < length L
    start_low = (place_own L start.atom p A).0

    start_is : get_or L p 0 ≡ start.atom
    start_is = (place_own L start.atom p A).1

    start_some : 1 ≤ start.length
    start_some = by_bool (eqb start.length 0) (λ e. let z = eqb-true start.length 0 e in absurd (B.lacks (λ w C g. absurd (omega arith)))) (λ e. let ne = eqb-false start.length 0 e in omega arith)

    start_inside : (w : List ℕ) → Chain P (get_or L p 0 ∷ w) → (y : ℕ) → Memᴰ y (get_or L p 0 ∷ w) → AtPlaces L (length L) (size - 1) y
    start_inside = whole_atoms P rows L (length L) start_setting size N p start_low

    atom_low : get_or L p 0 < P.atoms
    atom_low = start_setting.low p start_low

    start_lacks : LacksAt P L (length L) q extension
    start_lacks =
        record {
          shorter = λ j l w I. B.shorter (get_or L p 0) w atom_low I.chain (let e = I.long in omega arith);
          lacks = λ all. B.lacks
              (subst (λ a. (w : List ℕ) → Chain P (a ∷ w) → length (a ∷ w) ≡ start.length → Sublistᴰ (a ∷ w) (drop 3 q)) start_is (λ w C e. all w (record { chain = C; inside = start_inside w C; long = e })));
        }

    -- The first chain from there is the shortest that is missing.
    start_shortest : (w : List ℕ) → FirstAt P L (length L) q extension w → ShortestMissing P (drop 3 q) (get_or L p 0 ∷ w)
    start_shortest w H =
        record {
          chain = H.within.chain;
          lacking = H.lacking;
          shortest = shortest;
          first = first;
        }
      where
        shortest : (v : List ℕ) → Chain P v → length v < length (get_or L p 0 ∷ w) → Sublistᴰ v (drop 3 q)
        shortest [] C l = absurd (C.some refl)
        shortest (b ∷ v) C l = B.shorter b v (below_at P.atoms (b ∷ v) C.atoms b (Memᴰ.head refl)) C (let e = H.within.long in omega arith)

        same : (b : ℕ) (v : List ℕ) → b ≡ get_or L p 0 → Chain P (b ∷ v) → (Sublistᴰ (b ∷ v) (drop 3 q) → ⊥) → length (b ∷ v) ≡ start.length → precedes (b ∷ v) (get_or L p 0 ∷ w) ≡ false
        same b v e = subst (λ b. Chain P (b ∷ v) → (Sublistᴰ (b ∷ v) (drop 3 q) → ⊥) → length (b ∷ v) ≡ start.length → precedes (b ∷ v) (get_or L p 0 ∷ w) ≡ false) (sym e)
            (λ C f l. H.first v (record { chain = C; inside = start_inside v C; long = l }) f)

        first : (v : List ℕ) → Chain P v → (Sublistᴰ v (drop 3 q) → ⊥) → length v ≡ length (get_or L p 0 ∷ w) → precedes v (get_or L p 0 ∷ w) ≡ false
        first [] C f l = absurd (C.some refl)
        first (b ∷ v) C f l =
            let low = below_at P.atoms (b ∷ v) C.atoms b (Memᴰ.head refl) in
            let long : length (b ∷ v) ≡ start.length = l ∙ H.within.long in
            by_bool (ltb b start.atom) (λ h. absurd (f (B.lower b v low C long (ltb-true b start.atom h))))
            (λ h. by_bool (eqb b start.atom) (λ e. same b v (eqb-true b start.atom e ∙ sym start_is) C f long)
            (λ e. let g = ltb-false b start.atom h in let ne = eqb-false b start.atom e in let i = start_is in precedes_not (get_or L p 0) b v w (omega arith)))

  module _ (X : SomeMissing rows (drop 3 q) start) where
    pub start_fits : Position q 3 → Fits (length L) q extension
    start_fits first =
        let low = start_low X.program X.edged X.begins in
        record {
          position = first;
          small = full_small (length L) size N;
          low = low;
          own = full_places (length L) size N p ∙ lt-ltb p (length L) low;
          some = start_some X.program X.edged X.begins;
        }

    pub some_lacks : SomeLacks rows L (length L) q extension
    some_lacks =
        record {
          program = X.program;
          setting = start_setting X.program X.edged X.begins;
          lacks = start_lacks X.program X.edged X.begins;
        }

  pub chain_written : (old new : List ℕ) (r : ℕ) → ChainPut rows L (length L) q extension old 0 new r → MissingPut rows (drop 3 q) start old new r
  chain_written old new r C =
      record {
        chain = get_or L p 0 ∷ C.rest;
        wrote = C.wrote;
        is = λ P G B. start_shortest P G B C.rest (C.first P (start_setting P G B) (start_lacks P G B));
      }
