-- `count_operation::count` meets its contract, one law for each way through it.
use borrow.Author.Rules.{rules}
use Rattle.count_operation.proofs.Counting.{count_refused, count_ready, count_long, count_exact, count_crowded, count_answered}
use Rattle.count_operation.proofs.count.Goals as goal

pub returns-in_err-a : goal.returns-in_err-a
returns-in_err-a c = search (rules, count_refused)

pub count-requires : goal.count-requires
count-requires c = let known = c.in_ok-a.ensures in (search (rules, count_ready, known), search (rules, count_long, known), search (rules, count_exact, known))

pub returns-in_default : goal.returns-in_default
returns-in_default c = search (rules, count_crowded, c.in_ok-a.ensures, c.in_default.ensures)

pub returns : goal.returns
returns c = search (rules, count_answered, c.in_ok-a.ensures, c.in-Some.ensures)
