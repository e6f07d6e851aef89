-- The shortest chain that a sequence lacks (document 02, W4).
use Rattle.std.specs.Prelude.{Bool, false, not, ◌&&◌, ◌||◌, ◌≡◌, ℕ, ◌<◌, eqb, ltb, length, get_or}
use mathlib.Core.List.{List, [], ◌∷◌, Sublistᴰ}
use Rattle.lists.specs.Lists.{filter}
use Rattle.asp.specs.Program.{Program}
use Rattle.unfolding.specs.Chain.{Chain, chains, found}

-- The chains that are not found in s: shorter ones first, and those of one length in the order of their atoms.
unfoldable pub missing_chains : Program → List ℕ → List (List ℕ)
missing_chains P s = filter (λ w. not (found w s)) (chains P)

-- The first of them; no atoms where every chain is found.
unfoldable pub missing_chain : Program → List ℕ → List ℕ
missing_chain P s = get_or (missing_chains P s) 0 []

-- Where the lists first differ, w has the smaller atom.
unfoldable pub precedes : (w v : List ℕ) → Bool
precedes [] v = false
precedes (a ∷ w) [] = false
precedes (a ∷ w) (b ∷ v) = ltb a b || eqb a b && precedes w v

-- w is the shortest chain that is not found in s, and among equals the one whose first differing atom is smallest.
pub record ShortestMissing (P : Program) (s w : List ℕ) : Type 0 where
  pub chain : Chain P w
  pub lacking : Sublistᴰ w s → ⊥
  pub shortest : (v : List ℕ) → Chain P v → length v < length w → Sublistᴰ v s
  pub first : (v : List ℕ) → Chain P v → (Sublistᴰ v s → ⊥) → length v ≡ length w → precedes v w ≡ false
