-- The copy of an entry.
use Rattle.std.specs.Prelude.{Bool, not, cond, List, ◌≡◌, ℕ, suc, ◌+◌, ◌≤◌, ◌<◌, eqb, length, get_or, drop}
use Rattle.lists.specs.Lists.{member}
use Rattle.copies.specs.declared.EntryCopy.{EntryCopy}

-- There is an entry at index i, of an atom below 64.
pub record EntryAt (q : List ℕ) (i : ℕ) : Type 0 where
  pub from : 3 ≤ i
  pub within : i < length q
  pub atom : get_or q i 0 < 64

-- The atom of entry i stands behind it, too.
unfoldable pub again : List ℕ → ℕ → Bool
again q i = member (get_or q i 0) (drop (i + 1) q)

-- The places of the last entries: an entry is not its atom's last just when its atom has another place.
pub record LastPlaces (q places : List ℕ) : Type 0 where
  pub more : (i : ℕ) → 3 ≤ i → i < length q → not (eqb (get_or places (get_or q i 0) 0) i) ≡ again q i

-- The copy of entry i, where `so_far` is the highest variable so far of copies that are not their atom's last.
pub record Made (q : List ℕ) (i so_far : ℕ) (r : EntryCopy) : Type 0 where
  pub atom : r.atom ≡ get_or q i 0
  pub low : r.atom < 64
  pub var : r.var ≡ cond (again q i) (suc so_far) (suc (get_or q i 0))
  pub highest : r.highest ≡ cond (again q i) (suc so_far) so_far
