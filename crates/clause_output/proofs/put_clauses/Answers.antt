-- `clause_output::put_clauses` meets its contract, one law for each way through it.
use borrow.Author.Rules.{rules}
use Rattle.clause_output.proofs.Whole.{all_first, all_second, all_wrote}
use Rattle.clause_output.proofs.put_clauses.Goals as goal

pub put_copies-at-requires : goal.put_copies-at-requires
put_copies-at-requires c = search (rules, all_first)

pub put_backs-requires : goal.put_backs-requires
put_backs-requires c = (search rules, search rules, search (rules, all_second))

pub returns : goal.returns
returns c = search (rules, all_wrote)
