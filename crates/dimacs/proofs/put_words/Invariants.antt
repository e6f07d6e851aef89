-- `dimacs::put_words` meets its contract, one law for each way through it.
use lib.ListN.{drop}
use Rattle.writer.proofs.Writing.{Left}
use Rattle.dimacs.specs.inner.Words.{words_text}
use Rattle.dimacs.proofs.put_words.Given as goal

abbrev pub invariant-loop-w : goal.invariant-loop-w
invariant-loop-w l = Left l.initial.out l.at (words_text l.words) l.out l.next (words_text (drop l.w-index l.words))
