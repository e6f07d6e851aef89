-- `lparse_output::put_lparse` meets its contract, one law for each way through it.
use borrow.Author.Rules.{rules}
use Rattle.writer.proofs.Writing.{wrote_append}
use Rattle.lparse_lines.specs.inner.Lines.{whole_text}
use Rattle.lparse_output.proofs.Parts.{whole_first, whole_second, whole_third, whole_fourth}
use Rattle.lparse_output.proofs.put_lparse.Goals as goal

pub put_records-a-requires : goal.put_records-a-requires
put_records-a-requires c = (search rules, search (rules, whole_first))

pub put_text-b-requires : goal.put_text-b-requires
put_text-b-requires c = search (rules, whole_second)

pub put_symbols-c-requires : goal.put_symbols-c-requires
put_symbols-c-requires c = (search rules, search (rules, whole_third))

pub put_text-requires : goal.put_text-requires
put_text-requires c = search (rules, whole_fourth)

pub returns : goal.returns
unfolding whole_text
returns c = search (rules, wrote_append)
