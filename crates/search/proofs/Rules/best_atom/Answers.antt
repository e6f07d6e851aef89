-- `search::Rules::best_atom` meets its contract, one law for each way through it.
use borrow.Author.Rules.{rules}
use Rattle.search.proofs.Seeking.{seeking_turn}
use Rattle.search.proofs.Rules.best_atom.Goals as goal

pub loop-left-preserved : goal.loop-left-preserved
loop-left-preserved c = search (rules, seeking_turn)
