-- `rule_clauses::put_literal` meets its contract, one law for each way through it.
use Rattle.rule_clauses.proofs.Signs.{literal_plain, literal_negated}
use borrow.Author.Rules.{rules}
use Rattle.rule_clauses.proofs.put_literal.Goals as goal

pub returns-then-plain : goal.returns-then-plain
returns-then-plain c = search (rules, literal_plain)

pub returns : goal.returns
returns c = search (rules, literal_negated)
