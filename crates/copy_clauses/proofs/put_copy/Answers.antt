-- `copy_clauses::put_copy` meets its contract, one law for each way through it.
use borrow.Author.Rules.{rules}
use Rattle.copy_clauses.proofs.Copy.{copy_numbers, copy_first, copy_second, copy_put}
use Rattle.copy_clauses.proofs.put_copy.Goals as goal

pub put_first-at-requires : goal.put_first-at-requires
put_first-at-requires c = (search (rules, copy_first), search rules, search (rules, copy_numbers))

pub put_rules-requires : goal.put_rules-requires
put_rules-requires c = (search rules, search rules, search rules, search rules, search (rules, copy_numbers), search (rules, copy_second))

pub returns : goal.returns
returns c = search (rules, copy_put)
