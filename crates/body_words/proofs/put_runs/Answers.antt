-- `body_words::put_runs` meets its contract, one law for each way through it.
use borrow.Author.Rules.{rules}
use Rattle.body_words.proofs.Body.{vars_room, vars_turn, vars_less, vars_end, run_fits, run_room, run_turn, run_less}
use Rattle.body_words.proofs.put_runs.Goals as goal

pub put_eight-next-requires : goal.put_eight-next-requires
put_eight-next-requires c = search (rules, run_fits, run_room)

pub loop-left-smaller-then-has_eight : goal.loop-left-smaller-then-has_eight
loop-left-smaller-then-has_eight c = search (rules, run_less)

pub loop-left-preserved-then-has_eight : goal.loop-left-preserved-then-has_eight
loop-left-preserved-then-has_eight c = search (rules, run_turn)

pub put-next-requires : goal.put-next-requires
put-next-requires c = search (rules, vars_room)

pub loop-left-smaller : goal.loop-left-smaller
loop-left-smaller c = search (rules, vars_less)

pub loop-left-preserved : goal.loop-left-preserved
loop-left-preserved c = search (rules, vars_turn)

pub returns : goal.returns
returns c = search (rules, vars_end)
