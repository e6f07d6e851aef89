-- Least models of definite programs, by rounds of immediate consequences.
use Rattle.std.specs.Prelude.{true, false, ◌&&◌, List, ◌≡◌, ℕ, zero, suc, eqb}
use Rattle.lists.specs.Lists.{all, any}
use Rattle.asp.specs.Program.{State}

-- A rule without negative atoms.
pub record Definite : Type 0 where
  pub head : ℕ
  pub pos : List ℕ

-- The heads of the rules whose atoms are all in L.
unfoldable pub consequences : List Definite → State → State
consequences D L a = any (λ d. eqb d.head a && all L d.pos) D

-- What k rounds of an operator make of the empty set.
unfoldable pub iterate : (State → State) → ℕ → State
iterate f zero a = false
iterate f (suc k) a = f (iterate f k) a

-- The least model of a definite program whose heads are below n: after n rounds nothing is added.
unfoldable pub least_model : ℕ → List Definite → State
least_model n D = iterate (consequences D) n

-- X lies in Y.
abbrev pub Inside : State → State → Type 0
Inside X Y = (a : ℕ) → X a ≡ true → Y a ≡ true
