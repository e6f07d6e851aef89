-- `rule_clauses::put_body_pairs` meets its contract, one law for each way through it.
use Rattle.rule_clauses.proofs.Rule.{pairs_first, pairs_second, pairs_third, pairs_wrote}
use Rattle.rule_clauses.proofs.Signs.{last_small}
use borrow.Author.Rules.{rules}
use Rattle.rule_clauses.proofs.put_body_pairs.Goals as goal

pub put_pairs-middle-requires : goal.put_pairs-middle-requires
put_pairs-middle-requires c = (search rules, search rules, search (rules, pairs_first))

pub put_pairs-end-requires : goal.put_pairs-end-requires
put_pairs-end-requires c = (search (rules, last_small), search rules, search (rules, pairs_second))

pub put_added_pair-requires : goal.put_added_pair-requires
put_added_pair-requires c = (search rules, search (rules, pairs_third))

pub returns : goal.returns
returns c = search (rules, pairs_wrote)
