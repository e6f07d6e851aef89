-- The hub's limits: of what the format allows it takes 24 atoms, 4 atoms a component and 96 entries.
use Rattle.sheet.specs.declared.Limits.{Limits}
use Rattle.operations.specs.Limits.{in_format}

abbrev pub hub : Limits
hub = in_format (record { atoms = 24; component = 4; entries = 96 })
