-- `sheet_operations::put_header` meets its contract, one law for each way through it.
use borrow.Author.Rules.{rules}
use Rattle.sheet_operations.proofs.Writing.{header_written}
use Rattle.sheet_operations.proofs.put_header.Goals as goal

pub returns : goal.returns
returns c = search (rules, header_written)
