-- `search::Rules::fire_at` meets its contract, one law for each way through it.
use borrow.Author.Rules.{rules}
use Rattle.search.proofs.Passes.{fired_here}
use Rattle.search.proofs.Rules.fire_at.Goals as goal

pub returns : goal.returns
returns c = search (rules, fired_here)
