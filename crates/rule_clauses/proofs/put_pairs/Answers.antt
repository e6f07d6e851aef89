-- `rule_clauses::put_pairs` meets its contract, one law for each way through it.
use borrow.Author.Rules.{rules}
use Rattle.rule_clauses.proofs.Signs.{pairs_room, lowest_small, pairs_turn, pairs_end}
use Rattle.rule_clauses.proofs.put_pairs.Goals as goal

pub put_two-next-requires : goal.put_two-next-requires
put_two-next-requires c = (search (rules, pairs_room), search rules, search (rules, lowest_small))

pub loop-left-preserved : goal.loop-left-preserved
loop-left-preserved c = search (rules, pairs_turn)

pub returns : goal.returns
returns c = search (rules, pairs_end)
