-- `lparse_lines::put_body` meets its contract, one law for each way through it.
use borrow.Author.Rules.{rules}
use Rattle.lparse_lines.proofs.Lines.{size_small, literals_low, body_first, body_second, body_third, wrote_body}
use Rattle.lparse_lines.proofs.put_body.Goals as goal

pub put_field-a-requires : goal.put_field-a-requires
put_field-a-requires c = (search (rules, literals_low), search (rules, body_first))

pub put_field-b-requires : goal.put_field-b-requires
put_field-b-requires c = (search (rules, size_small), search (rules, body_second))

pub put_literals-requires : goal.put_literals-requires
put_literals-requires c = search (rules, body_third)

pub returns : goal.returns
returns c = search (rules, wrote_body)
