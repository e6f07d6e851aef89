-- Laws of what a component's table says of its chains.
use mathlib.Core.Bool.{Bool, true}
use mathlib.Core.List.{List, ◌∷◌, Memᴰ, Sublistᴰ}
use mathlib.Core.Path.{◌≡◌, refl, sym, ◌∙◌}
use Prim.Native.Nat.{ℕ, ◌-◌, ◌<◌}
use borrow.Author.Tests.{lt-ltb, ltb-true}
use lib.ListN.{get_or}
use Rattle.asp.specs.Program.{Program}
use Rattle.unfolding.specs.Chain.{Chain}
use Rattle.unfolding.proofs.Chains.{component_at}
use Rattle.bits.specs.inner.Sets.{Subset}
use Rattle.chain_rows.specs.inner.Subsets.{Setting, AtPlaces, Power}
use Rattle.chain_rows.proofs.Places.{full_places, full_small}
use Rattle.chain_table.specs.inner.Filled.{Filled}
use Rattle.chains.specs.inner.Components.{Tested}

-- A chain of the component lies in the set of all places.
module _ (P : Program) (rows atoms : List ℕ) (k : ℕ) (K : Setting P rows atoms k) where
  abbrev atom : ℕ → ℕ
  atom p = get_or atoms p 0

  pub whole_atoms : (size : ℕ) → Power k size → (p : ℕ) → p < k → (w : List ℕ) → Chain P (atom p ∷ w) → (y : ℕ) → Memᴰ y (atom p ∷ w) → AtPlaces atoms k (size - 1) y
  whole_atoms size N p m w C y n =
      let u = K.whole p m y (component_at P (atom p ∷ w) C (atom p) y (Memᴰ.head refl) n) in
      (u.0, u.1, u.2, full_places k size N u.0 ∙ lt-ltb u.0 k u.1)

-- The row of the whole component says whether all its chains are found.
module _ (rows atoms : List ℕ) (k : ℕ) (s : List ℕ) where
  pub filled_tested : (size : ℕ) (table : List ℕ) (b : Bool) → Filled rows atoms k s table → Power k size → Subset (size - 1) (get_or table (size - 1) 0) b → Tested rows atoms k s b
  filled_tested size table b F N S =
      record { is = λ P K. (found P K, all_found P K) }
    where
      found : (P : Program) → Setting P rows atoms k → b ≡ true → (p : ℕ) → p < k → (w : List ℕ) → Chain P (get_or atoms p 0 ∷ w) → Sublistᴰ (get_or atoms p 0 ∷ w) s
      found P K t p m w C =
          let here = full_places k size N p ∙ lt-ltb p k m in
          ((F.is P K).right (size - 1) (full_small k size N) p m here).0 (S.inside t p here) w C
          (whole_atoms P rows atoms k K size N p m w C)

      all_found : (P : Program) → Setting P rows atoms k → ((p : ℕ) → p < k → (w : List ℕ) → Chain P (get_or atoms p 0 ∷ w) → Sublistᴰ (get_or atoms p 0 ∷ w) s) → b ≡ true
      all_found P K h =
          S.all_inside (λ p t. let m = ltb-true p k (sym (full_places k size N p) ∙ t) in ((F.is P K).right (size - 1) (full_small k size N) p m t).1 (λ w C _. h p m w C))
