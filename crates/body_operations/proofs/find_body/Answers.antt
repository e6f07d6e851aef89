-- `body_operations::find_body` meets its contract, one law for each way through it.
use Rattle.body_operations.proofs.Bodies.{walk_accepted, body_refused, body_past, body_shown}
use borrow.Author.Rules.{rules}
use Rattle.body_operations.proofs.find_body.Goals as goal

pub returns-in_err-a : goal.returns-in_err-a
returns-in_err-a c = search (rules, body_refused)

pub returns-then-m-number : goal.returns-then-m-number
returns-then-m-number c = search (rules, body_past, c.in_ok-a.ensures)

pub record_place-at-requires : goal.record_place-at-requires
record_place-at-requires c = search (rules, walk_accepted)

pub returns : goal.returns
returns c = search (rules, body_shown, c.in_ok-a.ensures)
