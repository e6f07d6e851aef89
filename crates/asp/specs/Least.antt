-- When a set is the least that an operator leaves closed.
use Rattle.std.specs.Prelude.{true, ◌≡◌, ℕ}
use Rattle.asp.specs.Program.{State}
use Rattle.asp.specs.LeastModel.{Inside}

-- What an operator makes of L lies in L.
abbrev pub Closed : (State → State) → State → Type 0
Closed f L = (a : ℕ) → f L a ≡ true → L a ≡ true

-- L is the least of the sets that the operator leaves closed.
pub record Least (f : State → State) (L : State) : Type 0 where
  pub closed : Closed f L
  pub least : (Y : State) → Closed f Y → Inside L Y
