-- `search::Rules::cut_off` meets its contract, one law for each way through it.
use borrow.Author.Rules.{rules}
use Rattle.search.proofs.Propagating.{round_lacks, round_goes}
use Rattle.search.proofs.Rules.cut_off.Goals as goal

pub returns-then-not-subset : goal.returns-then-not-subset
returns-then-not-subset c = search (rules, round_lacks)

pub returns : goal.returns
returns c = search (rules, round_goes)
