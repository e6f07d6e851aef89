-- Each call leaves fewer atoms to decide.
use Rattle.search.specs.inner.Search.{undecided}
use Rattle.search.proofs.Rules.+branch.Given as goal

abbrev pub decreases-branch : goal.decreases-branch
decreases-branch l = undecided l.d
