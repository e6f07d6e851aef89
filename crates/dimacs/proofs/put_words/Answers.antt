-- `dimacs::put_words` meets its contract, one law for each way through it.
use borrow.Author.Rules.{rules}
use Rattle.writer.proofs.Writing.{left_turn, left_room, left_end}
use Rattle.dimacs.proofs.Words.{words_next, words_end}
use Rattle.dimacs.proofs.put_words.Goals as goal

pub put_word-next-requires : goal.put_word-next-requires
put_word-next-requires c = search (rules, left_room, words_next)

pub loop-w-preserved : goal.loop-w-preserved
loop-w-preserved c = search (rules, left_turn, words_next)

pub returns : goal.returns
returns c = search (rules, left_end, words_end)
