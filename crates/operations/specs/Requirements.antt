-- What the operations ask of limits and of a table that is lent.
use Rattle.std.specs.Prelude.{List, ℕ, ◌^◌, ◌≤◌, length}
use Rattle.sheet.specs.declared.Limits.{Limits}

-- Limits that the tables have room for.
pub record Supported (L : Limits) : Type 0 where
  pub atoms : L.atoms ≤ 64
  pub records : L.records ≤ 128
  pub component : L.component ≤ 10
  pub entries : L.entries ≤ 640

-- A table with a row for each set of a component's atoms.
abbrev pub TableFor : Limits → List ℕ → Type 0
TableFor L table = 2 ^ L.taken.component ≤ length table
