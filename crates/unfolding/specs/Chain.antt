-- Chains, and when a sequence passes the chain question ("Components and chains" of document 01, question 9).
use Rattle.std.specs.Prelude.{Bool, true, false, not, ◌&&◌, ◌||◌, ◌≢◌, ◌≡◌, ℕ, zero, suc, eqb}
use mathlib.Core.List.{List, [], ◌∷◌, ◌++◌, map, flat_map, Nodup, Sublistᴰ}
use Rattle.lists.specs.Lists.{below, all, filter, member, range}
use Rattle.asp.specs.Program.{Program}
use Rattle.unfolding.specs.Graph.{edge, same_component}

-- Each atom has an edge to the next.
unfoldable pub linked : Program → List ℕ → Bool
linked P [] = true
linked P (b ∷ []) = true
linked P (b ∷ a ∷ w) = edge P b a && linked P (a ∷ w)

-- A chain: one or more different atoms of one component, each with an edge to the next.
pub record Chain (P : Program) (w : List ℕ) : Type 0 where
  pub atoms : below P.atoms w ≡ true
  pub some : w ≢ []
  pub different : Nodup w
  pub component : all (λ a. all (same_component P a) w) w ≡ true
  pub links : linked P w ≡ true

-- The sequence passes: every chain is found in it, its atoms met in order, gaps allowed.
abbrev pub Passes : Program → List ℕ → Type 0
Passes P s = (w : List ℕ) → Chain P w → Sublistᴰ w s

-- The atom b can stand behind the chain w.
unfoldable pub extends : Program → List ℕ → ℕ → Bool
extends P w b = linked P (w ++ (b ∷ [])) && all (same_component P b) w && not (member b w)

-- The chains that are w with one atom more at the end, that atom rising.
unfoldable pub longer : Program → List ℕ → List (List ℕ)
longer P w = map (λ b. w ++ (b ∷ [])) (filter (extends P w) (range 0 P.atoms))

-- The chains of k + 1 atoms, in the order of their atoms.
unfoldable pub chains_of : Program → ℕ → List (List ℕ)
chains_of P zero = map (λ a. a ∷ []) (range 0 P.atoms)
chains_of P (suc k) = flat_map (longer P) (chains_of P k)

-- All chains, shorter ones first: none has more atoms than the program.
unfoldable pub chains : Program → List (List ℕ)
chains P = flat_map (chains_of P) (range 0 P.atoms)

-- The atoms of the first list can be met in the second in order, gaps allowed.
unfoldable pub found : List ℕ → List ℕ → Bool
found [] s = true
found (a ∷ w) [] = false
found (a ∷ w) (x ∷ s) = eqb a x && found w s || found (a ∷ w) s

-- The chain question as a test.
unfoldable pub passes : Program → List ℕ → Bool
passes P s = all (λ w. found w s) (chains P)
