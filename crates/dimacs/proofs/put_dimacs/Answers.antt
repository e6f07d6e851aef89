-- `dimacs::put_dimacs` meets its contract, one law for each way through it.
use native.Mathlib.Omega.{arith}
use borrow.Author.Rules.{rules}
use Rattle.writer.proofs.Writing.{wrote_append}
use Rattle.dimacs.proofs.Lines.{header_short}
use Rattle.dimacs.proofs.put_dimacs.Goals as goal

pub put_words-requires : goal.put_words-requires
put_words-requires c =
    omega (arith, header_short _ c.ranges.variables _ c.ranges.clauses)

pub returns : goal.returns
returns c = search (rules, wrote_append)
