-- Question 7.
use Rattle.std.specs.Prelude.{Bool, ℕ, leb, length}
use Rattle.lists.specs.Lists.{all, range}
use Rattle.asp.specs.Program.{Program}
use Rattle.unfolding.specs.Default.{members}

-- Question 7: every component has at most `most` atoms.
unfoldable pub components_fit : ℕ → Program → Bool
components_fit most P = all (λ c. leb (length (members P c)) most) (range 0 P.atoms)
