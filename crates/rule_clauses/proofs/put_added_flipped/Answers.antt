-- `rule_clauses::put_added_flipped` meets its contract, one law for each way through it.
use Rattle.rule_clauses.proofs.Signs.{flip_none, flip_room, flip_one}
use borrow.Author.Rules.{rules}
use Rattle.rule_clauses.proofs.put_added_flipped.Goals as goal

pub returns-then-added-eq0 : goal.returns-then-added-eq0
returns-then-added-eq0 c = search (rules, flip_none)

pub put_plain-requires : goal.put_plain-requires
put_plain-requires c = (search (rules, flip_room), search rules)

pub returns : goal.returns
returns c = search (rules, flip_one)
