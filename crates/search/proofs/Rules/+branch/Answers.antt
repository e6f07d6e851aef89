-- `search::Rules::branch` meets its contract, one law for each way through it.
use Rattle.std.proofs.Common.{arith}
use Rattle.search.proofs.Search.{found_last, found_sum, fewer_in, fewer_out, falls_below, stays_few, few}
use Rattle.search.proofs.Rules.+branch.Goals as goal

pub returns-then-left-eq0 : goal.returns-then-left-eq0
returns-then-left-eq0 t c =
    found_last _ c.args.d c.in-Some.b c.in-Some.ensures _ _ c.union.ensures c.difference-left.ensures _ c.if-left-eq0.true c.last.ensures

pub branch-inside-requires : goal.branch-inside-requires
branch-inside-requires t c =
    let less = fewer_in _ c.args.d c.in-Some.b c.in-Some.ensures _ _ c.union.ensures c.difference-left.ensures _ c.next_atom-a.ensures _ c.with.ensures in
    (falls_below _ _ _ less c.decreases, stays_few _ _ less c.requires)

pub branch-outside-requires : goal.branch-outside-requires
branch-outside-requires t c =
    let less = fewer_out _ c.args.d c.in-Some.b c.in-Some.ensures _ _ c.union.ensures c.difference-left.ensures _ c.next_atom-a.ensures _ c.with-2.ensures in
    (falls_below _ _ _ less c.decreases, stays_few _ _ less c.requires)

pub returns : goal.returns
returns t c =
    found_sum _ c.args.d c.in-Some.b c.in-Some.ensures _ _ c.union.ensures c.difference-left.ensures _ c.next_atom-a.ensures
    _ _ _ _ c.with.ensures c.with-2.ensures c.branch-inside.ensures c.branch-outside.ensures

pub overflow_add-result : goal.overflow_add-result
overflow_add-result t c = omega (arith, few _ _ c.requires (returns t c).small)
