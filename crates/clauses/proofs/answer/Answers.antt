-- `clauses::answer` meets its contract, one law for each way through it.
use borrow.Author.Rules.{rules}
use Rattle.clauses.proofs.Texts.{written_inside, text_short, answer_refused, answer_written}
use Rattle.clauses.proofs.answer.Goals as goal

pub slice_bounds-put_dimacs-end : goal.slice_bounds-put_dimacs-end
slice_bounds-put_dimacs-end c = search (rules, written_inside)

pub put_dimacs-requires : goal.put_dimacs-requires
put_dimacs-requires c = search (rules, text_short)

pub returns-in-Err : goal.returns-in-Err
returns-in-Err c = search (rules, answer_refused)

pub returns-in-Ok : goal.returns-in-Ok
returns-in-Ok c = search (rules, answer_written)
