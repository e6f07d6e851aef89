-- `clauses_operation::clauses` meets its contract, one law for each way through it.
use native.Mathlib.Omega.{arith}
use borrow.Author.Rules.{rules}
use Rattle.clauses_operation.proofs.Writing.{clauses_refused, clauses_full, clauses_done}
use Rattle.clauses_operation.proofs.clauses.Goals as goal

pub returns-in_err-size : goal.returns-in_err-size
returns-in_err-size c = search (rules, clauses_refused)

pub invariant_of-u : goal.invariant_of-u
invariant_of-u c = let few = c.in_ok-size.ensures.value.ready.readable.few in record { few = omega arith }

pub numbers_of-numbers-requires : goal.numbers_of-numbers-requires
numbers_of-numbers-requires c = c.in_ok-size.ensures.value.ready

pub returns-then-out-numbers : goal.returns-then-out-numbers
returns-then-out-numbers c = search (rules, clauses_full, c.in_ok-size.ensures)

pub put_clauses-words-requires : goal.put_clauses-words-requires
put_clauses-words-requires c = (c.in_ok-size.ensures.value.ready, search rules)

pub returns : goal.returns
returns c = search (rules, clauses_done, c.in_ok-size.ensures)
