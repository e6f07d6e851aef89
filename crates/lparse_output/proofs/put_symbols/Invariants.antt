-- `lparse_output::put_symbols` meets its contract, one law for each way through it.
use Rattle.lparse_output.proofs.Parts.{SymbolsLeft}
use Rattle.lparse_output.proofs.put_symbols.Given as goal

abbrev pub invariant-loop-a : goal.invariant-loop-a
invariant-loop-a l = SymbolsLeft l.initial.out l.at l.n l.out l.next l.a
