-- `lparse_sizes::symbols_length` meets its contract, one law for each way through it.
use Rattle.lparse_lines.specs.inner.Lines.{symbol_line}
use Rattle.lparse_sizes.proofs.Lengths.{Adding}
use Rattle.lparse_sizes.proofs.symbols_length.Given as goal

abbrev pub invariant-loop-a : goal.invariant-loop-a
invariant-loop-a l = Adding symbol_line l.n l.t l.a
