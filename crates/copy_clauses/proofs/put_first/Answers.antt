-- `copy_clauses::put_first` meets its contract, one law for each way through it.
use borrow.Author.Rules.{rules}
use Rattle.copy_clauses.proofs.Rules.{first_second, first_third, first_wrote}
use Rattle.copy_clauses.proofs.put_first.Goals as goal

pub put_range-end-requires : goal.put_range-end-requires
put_range-end-requires c = (search (rules, first_second), search rules)

pub put_plain-requires : goal.put_plain-requires
put_plain-requires c = (search (rules, first_third), search rules)

pub returns : goal.returns
returns c = search (rules, first_wrote)
