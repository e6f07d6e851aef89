-- Question 11's atoms.
use Rattle.std.specs.Prelude.{Bool, ◌&&◌, ◌||◌, List, ℕ, eqb}
use Rattle.lists.specs.Lists.{any, filter, member, range}
use Rattle.sheet.specs.Sheet.{Record}

-- The record asks for the atom: it is a rule or a choice rule with the atom in its negative list, or a choice rule with it as head.
unfoldable pub asks_for : Record → ℕ → Bool
asks_for r a = (eqb r.kind 0 || eqb r.kind 2) && member a r.body.neg || eqb r.kind 2 && eqb r.head a

-- Question 11 counts these: the written atoms that some record asks for. The count decides just these.
unfoldable pub decision_atoms : ℕ → List Record → List ℕ
decision_atoms n rs = filter (λ a. any (λ r. asks_for r a) rs) (range 0 n)
