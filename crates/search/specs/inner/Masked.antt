-- What the code's references lead to.
use Rattle.search.specs.inner.Rules.{Masks, in_arrays}
use Rattle.search.specs.declared.Rules.{Rules}

-- The rules and constraints of the three arrays.
abbrev pub masks : Rules → Masks
masks r = in_arrays r.records.now r.gate.now r.sizes
