-- Where missing chains start.
use mathlib.Core.List.{List, ◌∷◌, Sublistᴰ}
use Rattle.std.specs.Prelude.{Option, Some, None, ◌⊎◌, ◌≡◌, ℕ, ◌≤◌, ◌<◌, length}
use Rattle.asp.specs.Program.{Program}
use Rattle.unfolding.specs.Graph.{component}
use Rattle.unfolding.specs.Chain.{Chain}
use Rattle.chains.specs.inner.Components.{Edged, Members}
use Rattle.starts.specs.declared.Start.{Start}

-- Every chain with its first atom in C that comes before r, by length and then by first atom, is found in s. Some chain of that length from its atom is
-- not found, and its set is the atom's component.
pub record Begins (P : Program) (s : List ℕ) (C : ℕ → Type 0) (r : Start) : Type 0 where
  pub shorter : (b : ℕ) (w : List ℕ) → C b → Chain P (b ∷ w) → length (b ∷ w) < r.length → Sublistᴰ (b ∷ w) s
  pub lower : (b : ℕ) (w : List ℕ) → C b → Chain P (b ∷ w) → length (b ∷ w) ≡ r.length → b < r.atom → Sublistᴰ (b ∷ w) s
  pub lacks : ((w : List ℕ) → Chain P (r.atom ∷ w) → length (r.atom ∷ w) ≡ r.length → Sublistᴰ (r.atom ∷ w) s) → ⊥
  pub low : r.atom < P.atoms
  pub whole : Members P (component P r.atom) r.set

-- The start of a missing chain with its first atom in C, or none where every such chain is found in s.
pub record StartIn (P : Program) (s : List ℕ) (C : ℕ → Type 0) (r : Option Start) : Type 0 where
  pub none : r ≡ None → (b : ℕ) (w : List ℕ) → C b → Chain P (b ∷ w) → Sublistᴰ (b ∷ w) s
  pub some : (a : Start) → r ≡ Some a → Begins P s C a

-- The start in the component with these atoms.
pub record ComponentStart (rows : List ℕ) (x : ℕ) (s : List ℕ) (r : Option Start) : Type 0 where
  pub is : (P : Program) (c : ℕ) → Edged P rows → Members P c x → StartIn P s (λ b. component P b ≡ c) r

-- a is not behind b, by length and then by first atom.
abbrev pub NotBehind : Start → Start → Type 0
NotBehind a b = (a.length < b.length) ⊎ ((a.length ≡ b.length) × (a.atom ≤ b.atom))

-- r is the one of two that comes first; none comes behind every start.
pub record Earlier (a b r : Option Start) : Type 0 where
  pub either : (r ≡ a) ⊎ (r ≡ b)
  pub none : r ≡ None → (a ≡ None) × (b ≡ None)
  pub first : (x y : Start) → r ≡ Some x → (a ≡ Some y) ⊎ (b ≡ Some y) → NotBehind x y
