-- The office's limits: it takes all that the format allows.
use Rattle.sheet.specs.declared.Limits.{Limits}
use Rattle.operations.specs.Limits.{in_format}

abbrev pub office : Limits
office = in_format (record { atoms = 64; component = 10; entries = 640 })
