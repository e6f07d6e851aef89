-- `sheet::sequence_fits` meets its contract, one law for each way through it.
use borrow.Author.Rules.{rules}
use Rattle.sheet.proofs.Sequences.{fits_short, fits_version, fits_many, fits_size, fits_low}
use Rattle.sheet.proofs.sequence_fits.Goals as goal

pub returns-then-q-lt3 : goal.returns-then-q-lt3
returns-then-q-lt3 c = search (rules, fits_short)

pub returns-then-byte_at-ne1 : goal.returns-then-byte_at-ne1
returns-then-byte_at-ne1 c = search (rules, fits_version)

pub returns-then-limits-t : goal.returns-then-limits-t
returns-then-limits-t c = search (rules, fits_many)

pub returns-then-q-t : goal.returns-then-q-t
returns-then-q-t c = search (rules, fits_size)

pub returns : goal.returns
returns c = search (rules, fits_low)
