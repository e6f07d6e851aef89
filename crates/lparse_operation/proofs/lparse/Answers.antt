-- `lparse_operation::lparse` meets its contract, one law for each way through it.
use borrow.Author.Rules.{rules}
use Rattle.lparse_operation.proofs.Texts.{lparse_refused, lparse_atoms, lparse_count, lparse_full, lparse_done}
use Rattle.lparse_operation.proofs.lparse.Goals as goal

pub returns-in_err-a : goal.returns-in_err-a
returns-in_err-a c = search (rules, lparse_refused)

pub lparse_length-requires : goal.lparse_length-requires
lparse_length-requires c = (search (rules, lparse_atoms), search (rules, lparse_count))

pub returns-then-out-lparse_length : goal.returns-then-out-lparse_length
returns-then-out-lparse_length c = search (rules, lparse_full, c.in_ok-a.ensures)

pub put_lparse-requires : goal.put_lparse-requires
put_lparse-requires c = (search (rules, lparse_atoms), search (rules, lparse_count), search rules)

pub returns : goal.returns
returns c = search (rules, lparse_done, c.in_ok-a.ensures)
