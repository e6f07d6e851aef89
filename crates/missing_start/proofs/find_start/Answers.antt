use Rattle.lists.proofs.Members.{below_more}
use Rattle.chains.proofs.Components.{component_roomy, entries_gathered}
use Rattle.missing_start.proofs.Sofar.{sofar_end}
use borrow.Author.Rules.{rules}
use native.Mathlib.Omega.{arith}
use Rattle.missing_start.proofs.find_start.Goals as goal

pub improved-best-requires : goal.improved-best-requires
improved-best-requires c = search (rules, component_roomy, below_more, entries_gathered)

pub returns : goal.returns
returns c = sofar_end _ _ _ _ _ _ c.loop-x.invariant (omega arith) (omega arith)
