-- Positions in a sequence, and the one behind an atom.
use mathlib.Core.List.{List, ◌∷◌, Memᴰ, Sublistᴰ}
use Rattle.std.specs.Prelude.{ℕ, ◌≤◌, length, drop}

-- A position in a sequence of at most 640 entries: behind its first three bytes, and at its end at most.
pub record Position (q : List ℕ) (i : ℕ) : Type 0 where
  pub start : 3 ≤ i
  pub inside : i ≤ length q
  pub short : length q ≤ 643

-- r is the position in q behind the first a from a position on, or the end.
pub record Behind (q : List ℕ) (from a r : ℕ) : Type 0 where
  pub position : Position q r
  pub onward : (v : List ℕ) → Sublistᴰ (a ∷ v) (drop from q) → Sublistᴰ v (drop r q)
  pub back : (v : List ℕ) → Memᴰ a (drop from q) → Sublistᴰ v (drop r q) → Sublistᴰ (a ∷ v) (drop from q)
