-- `rule_clauses::put_two` meets its contract, one law for each way through it.
use Rattle.rule_clauses.proofs.Signs.{two_wrote}
use borrow.Author.Rules.{rules}
use Rattle.rule_clauses.proofs.put_two.Goals as goal

pub returns : goal.returns
returns c = search (rules, two_wrote)
