-- `translation::program_of` meets its contract, one law for each way through it.
use borrow.Author.Rules.{rules}
use Rattle.translation.proofs.Appending.{ruling_start, ruling_room, ruling_fresh, ruling_turn, constraining_start, constraining_room, constraining_turn, constraints_behind, all_atoms, translated}
use Rattle.translation.proofs.program_of.Goals as goal

pub loop-j-init : goal.loop-j-init
loop-j-init c = search (rules, ruling_start)

pub store_rules-rules-requires : goal.store_rules-rules-requires
store_rules-rules-requires c = (search (rules, ruling_room), search (rules, ruling_fresh), search rules)

pub loop-j-preserved : goal.loop-j-preserved
loop-j-preserved c = search (rules, ruling_turn)

pub loop-i-init : goal.loop-i-init
loop-i-init c = (constraining_start _ _ c.requires.0 _ _ _ c.loop-j.invariant (search rules), search (rules, all_atoms))

pub store_constraint-all-requires : goal.store_constraint-all-requires
store_constraint-all-requires c = search (rules, constraining_room)

pub loop-i-preserved : goal.loop-i-preserved
loop-i-preserved c = (search (rules, constraining_turn), search rules)

pub overflow_sub-result : goal.overflow_sub-result
overflow_sub-result c = constraints_behind _ _ c.requires.0 _ _ _ c.loop-i.invariant.0 (search rules)

pub returns : goal.returns
returns c = translated _ _ c.requires.0 _ _ _ c.loop-i.invariant.0 (search rules) _ c.loop-i.invariant.1
