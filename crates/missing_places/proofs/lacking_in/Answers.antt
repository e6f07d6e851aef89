-- `missing_places::lacking_in` meets its contract, one law for each way through it.
use borrow.Author.Tests.{not-true}
use Rattle.missing_places.proofs.Rows.{lacking_outside, lacking_large, lacking_row}
use borrow.Author.Rules.{rules}
use Rattle.missing_places.proofs.lacking_in.Goals as goal

pub returns-then-not-subset : goal.returns-then-not-subset
returns-then-not-subset c = search (rules, not-true, lacking_outside)

pub returns-then-m-size : goal.returns-then-m-size
returns-then-m-size c = search (rules, lacking_large)

pub returns : goal.returns
returns c = search (rules, lacking_row)
