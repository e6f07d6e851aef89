-- `sheet::entries_fit` meets its contract, one law for each way through it.
use native.Mathlib.Omega.{arith}
use borrow.Author.Rules.{rules}
use Rattle.sheet.proofs.Sequences.{fitting_start, fitting_fails, fitting_turn, fitting_end, slice_entries}
use Rattle.sheet.proofs.entries_fit.Goals as goal

pub loop-a-init : goal.loop-a-init
loop-a-init c = search (rules, fitting_start)

pub returns-then-n-from : goal.returns-then-n-from
returns-then-n-from c = rw (← slice_entries c.args.q.now) (fitting_fails _ _ _ c.loop-a.invariant c.loop-a-test.true (let same = c.from.ensures in omega arith))

pub loop-a-preserved : goal.loop-a-preserved
loop-a-preserved c = fitting_turn _ _ _ c.loop-a.invariant c.loop-a-test.true (let same = c.from.ensures in omega arith)

pub returns : goal.returns
returns c = rw (← slice_entries c.args.q.now) (search (rules, fitting_end))
