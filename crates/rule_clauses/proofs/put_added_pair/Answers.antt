-- `rule_clauses::put_added_pair` meets its contract, one law for each way through it.
use Rattle.rule_clauses.proofs.Signs.{pair_none, pair_room, pair_one_lem}
use borrow.Author.Rules.{rules}
use Rattle.rule_clauses.proofs.put_added_pair.Goals as goal

pub returns-then-added-eq0 : goal.returns-then-added-eq0
returns-then-added-eq0 c = search (rules, pair_none)

pub put_two-requires : goal.put_two-requires
put_two-requires c = (search (rules, pair_room), search rules, search rules)

pub returns : goal.returns
returns c = search (rules, pair_one_lem)
