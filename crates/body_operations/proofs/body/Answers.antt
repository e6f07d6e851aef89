-- `body_operations::body` meets its contract, one law for each way through it.
use borrow.Author.Rules.{rules}
use Rattle.operations.proofs.Bodies.{body_none, body_count}
use Rattle.body_operations.proofs.body.Goals as goal

pub returns-in_err-find_body : goal.returns-in_err-find_body
returns-in_err-find_body c = search (rules, body_none)

pub returns : goal.returns
returns c = search (rules, body_count)
