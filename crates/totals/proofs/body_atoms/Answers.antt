-- `totals::body_atoms` meets its contract, one law for each way through it.
use borrow.Author.Rules.{rules}
use Rattle.totals.proofs.Sizing.{atoms_sized}
use Rattle.totals.proofs.body_atoms.Goals as goal

pub returns : goal.returns
returns c = search (rules, atoms_sized)
