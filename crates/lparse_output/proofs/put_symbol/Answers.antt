-- `lparse_output::put_symbol` meets its contract, one law for each way through it.
use borrow.Author.Rules.{rules}
use Rattle.writer.proofs.Writing.{wrote_append}
use Rattle.lparse_lines.specs.inner.Lines.{symbol_line}
use Rattle.lparse_output.proofs.Parts.{symbol_first, symbol_second, symbol_third, symbol_fourth}
use Rattle.lparse_output.proofs.put_symbol.Goals as goal

pub put_small-b-requires : goal.put_small-b-requires
put_small-b-requires c = (search rules, search (rules, symbol_first))

pub put_text-c-requires : goal.put_text-c-requires
put_text-c-requires c = search (rules, symbol_second)

pub put_small-e-requires : goal.put_small-e-requires
put_small-e-requires c = (search rules, search (rules, symbol_third))

pub put-requires : goal.put-requires
put-requires c = search symbol_fourth

pub returns : goal.returns
unfolding symbol_line
returns c = search (rules, wrote_append)
