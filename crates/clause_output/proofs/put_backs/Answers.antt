-- `clause_output::put_backs` meets its contract, one law for each way through it.
use borrow.Author.Rules.{rules}
use Rattle.rule_clauses.proofs.Signs.{last_small}
use Rattle.clause_output.proofs.Backs.{backs_room, backs_turn, backs_end}
use Rattle.clause_output.proofs.put_backs.Goals as goal

pub put_back-next-requires : goal.put_back-next-requires
put_back-next-requires c = (search (rules, last_small), search rules, search (rules, backs_room))

pub loop-j-preserved : goal.loop-j-preserved
loop-j-preserved c = search (rules, backs_turn)

pub returns : goal.returns
returns c = search (rules, backs_end)
