-- Chains by their first atom: what the chain question's table holds.
use mathlib.Core.List.{List, ◌∷◌, Memᴰ, Sublistᴰ}
use Rattle.std.specs.Prelude.{ℕ}
use Rattle.asp.specs.Program.{Program}
use Rattle.unfolding.specs.Chain.{Chain}

-- Every chain that starts at a, its atoms all of X, is found in s.
abbrev pub Started : Program → List ℕ → (ℕ → Type 0) → ℕ → Type 0
Started P s X a = (w : List ℕ) → Chain P (a ∷ w) → ((b : ℕ) → Memᴰ b (a ∷ w) → X b) → Sublistᴰ (a ∷ w) s
