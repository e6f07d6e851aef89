-- `counting::count_models` meets its contract, one law for each way through it.
use borrow.Author.Rules.{rules}
use Rattle.count_preparation.proofs.Ordering.{prepared_order}
use Rattle.counting.proofs.Deciding.{models_counted, heads_low, rules_few, ready, none_decided}
use Rattle.counting.proofs.count_models.Goals as goal

pub returns_of-back-requires : goal.returns_of-back-requires
returns_of-back-requires c = search (rules, prepared_order, rules_few, heads_low)

pub gates_of-gate-requires : goal.gates_of-gate-requires
gates_of-gate-requires c = search (rules, prepared_order, rules_few, heads_low)

pub invariant_of-rules : goal.invariant_of-rules
invariant_of-rules c = search (rules, prepared_order, ready)

pub branch-rules-requires : goal.branch-rules-requires
branch-rules-requires c = search (rules, none_decided)

pub returns : goal.returns
returns c = search (rules, prepared_order, models_counted)
