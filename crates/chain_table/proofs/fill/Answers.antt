use borrow.Author.Rules.{rules}
use Rattle.chain_table.proofs.Filling.{reading_low, reading_end}
use Rattle.chain_table.proofs.fill.Goals as goal

pub enter-requires : goal.enter-requires
enter-requires c = (search rules, search rules, reading_low _ _ _ _ _ _ _ _ _ _ c.loop-x.invariant.2 c.in-Some.ensures.steps c.from-in-loop-x.ensures (search rules) (search rules))

pub returns : goal.returns
returns c = reading_end _ _ _ _ _ _ _ c.loop-x.invariant.2 c.in-None.ensures.steps.0
