-- What a component's table over sets lacks.
use Rattle.std.specs.Prelude.{true, false, List, ◌≡◌, ℕ, ◌≤◌, ◌<◌, length, get_or}
use Rattle.bits.specs.inner.Sets.{has}
use Rattle.bits.specs.inner.Visited.{listed}
use Rattle.missing_places.specs.declared.ShortestChains.{ShortestChains}

-- The set T lies in U, has at most m places, p among them, and its row lacks p.
pub record Lacks (table : List ℕ) (U m p T : ℕ) : Type 0 where
  pub inside : (q : ℕ) → has T q ≡ true → has U q ≡ true
  pub few : length (listed T) ≤ m
  pub own : has T p ≡ true
  pub lacks : has (get_or table T 0) p ≡ false

-- r has the places that the row of the set T lacks, where T lies in U and has at most m.
pub record LackingIn (table : List ℕ) (U m T r : ℕ) : Type 0 where
  pub out : (p : ℕ) → has r p ≡ true → Lacks table U m p T
  pub back : (p : ℕ) → Lacks table U m p T → has r p ≡ true

-- r has the places that some set lacks.
pub record Lacking (table : List ℕ) (U m r : ℕ) : Type 0 where
  pub out : (p : ℕ) → has r p ≡ true → (T : ℕ) × (T ≤ U) × Lacks table U m p T
  pub back : (p T : ℕ) → T ≤ U → Lacks table U m p T → has r p ≡ true

-- No set of fewer than r places lacks one; one of r places does, or r is k.
pub record Shortest (table : List ℕ) (U k r : ℕ) : Type 0 where
  pub none : (m : ℕ) → m < r → (p T : ℕ) → T ≤ U → Lacks table U m p T → ⊥
  pub some : r < k → (p : ℕ) × (T : ℕ) × (T ≤ U) × Lacks table U r p T

-- No chain of fewer than r.length atoms is missing, and those of r.length start at the places.
pub record ShortestAt (table : List ℕ) (U k : ℕ) (r : ShortestChains) : Type 0 where
  pub shortest : Shortest table U k r.length
  pub places : Lacking table U r.length r.places
