-- `search::Rules::best_atom` meets its contract, one law for each way through it.
use Rattle.search.proofs.Seeking.{Seeking}
use Rattle.search.proofs.Rules.best_atom.Given as goal

abbrev pub invariant-loop-left : goal.invariant-loop-left
invariant-loop-left l = Seeking l.undecided l.left l.best

abbrev pub decreases-loop-left : goal.decreases-loop-left
decreases-loop-left l = l.left
