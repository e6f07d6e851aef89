use Rattle.component_output.proofs.Loops.{block_length}
use borrow.Author.Rules.{rules}
use Rattle.component_output.proofs.block_length.Goals as goal

pub returns : goal.returns
returns c = search (rules, block_length)
