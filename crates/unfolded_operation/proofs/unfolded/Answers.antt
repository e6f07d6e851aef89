-- `unfolded_operation::unfolded` meets its contract, one law for each way through it.
use native.Mathlib.Omega.{arith}
use borrow.Author.Rules.{rules}
use Rattle.unfolded_operation.proofs.Writing.{unfolded_refused, unfolded_full, unfolded_done}
use Rattle.unfolded_operation.proofs.unfolded.Goals as goal

pub returns-in_err-size : goal.returns-in_err-size
returns-in_err-size c = search (rules, unfolded_refused)

pub invariant_of-u : goal.invariant_of-u
invariant_of-u c = let few = c.in_ok-size.ensures.value.ready.readable.few in record { few = omega arith }

pub unfolded_length-words-requires : goal.unfolded_length-words-requires
unfolded_length-words-requires c = c.in_ok-size.ensures.value.ready

pub returns-then-out-words : goal.returns-then-out-words
returns-then-out-words c = search (rules, unfolded_full, c.in_ok-size.ensures)

pub put_unfolded-requires : goal.put_unfolded-requires
put_unfolded-requires c = (c.in_ok-size.ensures.value.ready, search rules)

pub returns : goal.returns
returns c = search (rules, unfolded_done, c.in_ok-size.ensures)
