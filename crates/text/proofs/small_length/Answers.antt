-- `text::small_length` meets its contract, one law for each way through it.
use borrow.Author.Rules.{rules}
use Rattle.text.proofs.Digits.{small_one, small_two, small_three}
use Rattle.text.proofs.small_length.Goals as goal

pub returns-then-n-lt10 : goal.returns-then-n-lt10
returns-then-n-lt10 c = search (rules, small_one)

pub returns-then-n-lt100 : goal.returns-then-n-lt100
returns-then-n-lt100 c = search (rules, small_two)

pub returns : goal.returns
returns c = search (rules, small_three)
