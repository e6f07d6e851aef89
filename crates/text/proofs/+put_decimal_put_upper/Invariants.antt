-- The measure of n is 2n + 1 in `text::put_decimal` and 2n in `text::put_upper`.
use Rattle.std.proofs.Common.{◌+◌}
use Rattle.text.proofs.+put_decimal_put_upper.Given as goal

abbrev pub decreases-put_decimal : goal.decreases-put_decimal
decreases-put_decimal l = l.n + l.n + 1

abbrev pub decreases-put_upper : goal.decreases-put_upper
decreases-put_upper l = l.n + l.n
