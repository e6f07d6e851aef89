-- The limits of the format (document 01), of which a service takes all or a part.
use Rattle.sheet.specs.declared.Limits.{Limits}
use Rattle.sheet.specs.declared.Taken.{Taken}

-- 64 atoms, 128 records, 10 atoms a component, 640 entries, and what the service takes of these.
abbrev pub in_format : Taken → Limits
in_format taken = record { atoms = 64; records = 128; component = 10; entries = 640; taken = taken }
