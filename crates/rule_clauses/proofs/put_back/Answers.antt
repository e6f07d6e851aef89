-- `rule_clauses::put_back` meets its contract, one law for each way through it.
use Rattle.rule_clauses.proofs.Rule.{back_first, back_second, back_third, back_fourth, back_wrote}
use Rattle.rule_clauses.proofs.Signs.{last_small}
use borrow.Author.Rules.{rules}
use Rattle.rule_clauses.proofs.put_back.Goals as goal

pub put_flipped-middle-requires : goal.put_flipped-middle-requires
put_flipped-middle-requires c = (search rules, search (rules, back_first))

pub put_flipped-behind-requires : goal.put_flipped-behind-requires
put_flipped-behind-requires c = (search (rules, last_small), search (rules, back_second))

pub put_added_flipped-last-requires : goal.put_added_flipped-last-requires
put_added_flipped-last-requires c = search (rules, back_third)

pub put_plain-requires : goal.put_plain-requires
put_plain-requires c =
    (back_fourth _ _ _ c.requires.1 _ _ c.requires.2 _ _ c.put_flipped-middle.ensures _ _ c.put_flipped-behind.ensures _ _ c.put_added_flipped-last.ensures, search rules)

pub returns : goal.returns
returns c = search (rules, back_wrote)
