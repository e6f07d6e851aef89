use native.Mathlib.Omega.{arith}
use Rattle.positions.proofs.Positions.{position_low, position_end, behind_found, behind_none}
use Rattle.positions.proofs.behind.Goals as goal

pub overflow_cast-result-in-None : goal.overflow_cast-result-in-None
overflow_cast-result-in-None c = let end = position_low _ _ (position_end _ _ c.requires) in omega arith

pub returns-in-Some : goal.returns-in-Some
returns-in-Some c = behind_found _ _ _ c.requires _ (rw c.from.ensures at c.in-Some.ensures)

pub returns-in-None : goal.returns-in-None
returns-in-None c = behind_none _ _ _ c.requires (rw c.from.ensures at c.in-None.ensures)
