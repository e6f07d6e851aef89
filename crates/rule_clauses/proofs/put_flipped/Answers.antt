-- `rule_clauses::put_flipped` meets its contract, one law for each way through it.
use borrow.Author.Rules.{rules}
use Rattle.rule_clauses.proofs.Signs.{flipped_room, lowest_small, flipped_turn, flipped_end}
use Rattle.rule_clauses.proofs.put_flipped.Goals as goal

pub put_literal-next-requires : goal.put_literal-next-requires
put_literal-next-requires c = (search (rules, flipped_room), search (rules, lowest_small))

pub loop-left-preserved : goal.loop-left-preserved
loop-left-preserved c = search (rules, flipped_turn)

pub returns : goal.returns
returns c = search (rules, flipped_end)
