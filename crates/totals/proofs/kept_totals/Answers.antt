-- `totals::kept_totals` meets its contract, one law for each way through it.
use mathlib.Core.Path.{◌∙◌}
use native.Mathlib.Omega.{arith}
use borrow.Author.Rules.{rules}
use Rattle.totals.proofs.Totalling.{entry_within, entry_is, entries_over, totalling_start, totalling_atom, totalling_rules, totalling_atoms, totalling_turn, totalling_end}
use Rattle.totals.proofs.kept_totals.Goals as goal

pub loop-a-init : goal.loop-a-init
loop-a-init c = search (rules, totalling_start)

pub copy_step-step-requires : goal.copy_step-step-requires
copy_step-step-requires c =
    let w = entry_within _ _ c.loop-a-test.true in
    let a = c.from.ensures ∙ entry_is c.args.u.now.q.now c.loop-a.a-index in
    search (rules, totalling_atom)

pub overflow_add-rules : goal.overflow_add-rules
overflow_add-rules c =
    let w = entry_within _ _ c.loop-a-test.true in
    let a = c.from.ensures ∙ entry_is c.args.u.now.q.now c.loop-a.a-index in
    search (rules, totalling_rules)

pub overflow_add-atoms : goal.overflow_add-atoms
overflow_add-atoms c =
    let w = entry_within _ _ c.loop-a-test.true in
    let a = c.from.ensures ∙ entry_is c.args.u.now.q.now c.loop-a.a-index in
    search (rules, totalling_atoms)

pub loop-a-preserved : goal.loop-a-preserved
loop-a-preserved c =
    totalling_turn _ _ _ c.requires _ _ _ _ _ c.loop-a.invariant (entry_within _ _ c.loop-a-test.true) _ (c.from.ensures ∙ entry_is c.args.u.now.q.now c.loop-a.a-index) _ _ c.copy_step-step.ensures _ c.body_sizes-sizes.ensures _ c.listed_sum-atoms.ensures _ (omega arith)

pub returns : goal.returns
returns c = let l = entries_over _ _ c.loop-a-test.false in search (rules, totalling_end)
