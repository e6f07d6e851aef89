-- `bits::without` meets its contract, one law for each way through it.
use borrow.Author.Rules.{rules}
use Rattle.bits.proofs.Digits.{without_one}
use Rattle.bits.proofs.without.Goals as goal

pub returns : goal.returns
returns c = search (rules, without_one)
