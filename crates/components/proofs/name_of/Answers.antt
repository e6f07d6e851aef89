use borrow.Author.Rules.{rules}
use Rattle.components.proofs.Naming.{seeking_start, seeking_past, seeking_found, seeking_turn, seeking_end}
use Rattle.components.proofs.name_of.Goals as goal

pub loop-left-init : goal.loop-left-init
loop-left-init c = search (rules, seeking_start)

pub returns-then-a-b : goal.returns-then-a-b
returns-then-a-b c = search (rules, seeking_past)

pub returns-then-has : goal.returns-then-has
returns-then-has c = search (rules, seeking_found)

pub loop-left-preserved : goal.loop-left-preserved
loop-left-preserved c = search (rules, seeking_turn)

pub returns : goal.returns
returns c = search (rules, seeking_end)
