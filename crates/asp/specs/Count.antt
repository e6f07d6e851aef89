-- The number of stable models, and the verdict.
use Rattle.std.specs.Prelude.{false, ◌||◌, ℕ, zero, suc, eqb, length}
use mathlib.Core.List.{List, [], ◌∷◌, ◌++◌, map, Memᴰ, Nodup}
use Rattle.lists.specs.Lists.{filter}
use Rattle.asp.specs.Program.{Program, State}
use Rattle.asp.specs.StableModel.{is_stable}

-- The empty state.
unfoldable pub empty : State
empty a = false

-- The state with the atom b.
unfoldable pub with : ℕ → State → State
with b X a = eqb b a || X a

-- All sets of the atoms 0 .. n - 1.
unfoldable pub states : ℕ → List State
states zero = empty ∷ []
states (suc n) = states n ++ map (with n) (states n)

-- The stable models of the program.
unfoldable pub stable_models : Program → List State
stable_models P = filter (is_stable P) (states P.atoms)

-- The list has exactly the states with the property, each once.
pub record Enumerates (S : State → Type 0) (L : List State) : Type 0 where
  pub distinct : Nodup L
  pub sound : (X : State) → Memᴰ X L → S X
  pub complete : (X : State) → S X → Memᴰ X L

-- The count.
unfoldable pub count : Program → ℕ
count P = length (stable_models P)

-- The verdict.
pub data Verdict : Type 0 where
  none clear split : Verdict

-- None for 0, clear for 1, split for more.
unfoldable pub verdict : ℕ → Verdict
verdict zero = none
verdict (suc zero) = clear
verdict (suc (suc k)) = split
