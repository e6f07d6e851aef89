-- The program that a table holds.
use Rattle.std.specs.Prelude.{true, List, [], ◌∷◌, ◌++◌, map, ◌≡◌, ℕ, zero, suc, ◌+◌, ◌≤◌}
use Rattle.lists.specs.Lists.{range}
use Rattle.asp.specs.Program.{Body, Rule, Program, well_formed}
use Rattle.bits.specs.inner.Visited.{listed}
use Rattle.tables.specs.inner.Rows.{row_at, entry_at}
use Rattle.program.specs.declared.ProgramSize.{ProgramSize}
use Rattle.program.specs.declared.TableRule.{TableRule}

-- The rule at entry i: its sets are those of the record at its source.
unfoldable pub table_rule : List ℕ → List ℕ → ℕ → TableRule
table_rule records entries i =
    record {
      head = (entry_at entries i).head;
      pos = (row_at records (entry_at entries i).source).pos;
      neg = (row_at records (entry_at entries i).source).neg;
      added = (entry_at entries i).added;
    }

-- A program as a table: the numbers of atoms, rules and constraints, a sheet's records, and the entries.
pub record ProgramTable : Type 0 where
  pub atoms : ℕ
  pub rules : ℕ
  pub constraints : ℕ
  pub records : List ℕ
  pub entries : List ℕ

-- The table in arrays.
abbrev pub table_of : ProgramSize → List ℕ → List ℕ → ProgramTable
table_of size records entries = record { atoms = size.atoms; rules = size.rules; constraints = size.constraints; records = records; entries = entries }

-- The atom that is added to a list: a + 1 stands for the atom a, 0 for none.
unfoldable pub added_atom : ℕ → List ℕ
added_atom zero = []
added_atom (suc a) = a ∷ []

-- The body of two sets, their atoms rising, with an atom that is added to the negative ones.
unfoldable pub body_of : TableRule → Body
body_of r = record { pos = listed r.pos; neg = listed r.neg ++ added_atom r.added }

-- The rule of a head and such a body.
unfoldable pub rule_of : TableRule → Rule
rule_of r = record { head = r.head; body = body_of r }

-- The rules at k entries, from the j-th on.
unfoldable pub rules_at : List ℕ → List ℕ → ℕ → ℕ → List Rule
rules_at records entries j k = map (λ i. rule_of (table_rule records entries i)) (range j k)

-- The bodies at k entries, from the j-th on.
unfoldable pub bodies_at : List ℕ → List ℕ → ℕ → ℕ → List Body
bodies_at records entries j k = map (λ i. body_of (table_rule records entries i)) (range j k)

-- The program of a table: first the rules, behind them the constraints.
unfoldable pub program_in : ProgramTable → Program
program_in t =
    record {
      atoms = t.atoms;
      rules = rules_at t.records t.entries 0 t.rules;
      constraints = bodies_at t.records t.entries t.rules t.constraints;
    }

-- A table that can be worked with: sets hold its atoms, its entries are there, and every atom that it names is one of its atoms.
pub record Readable (t : ProgramTable) : Type 0 where
  pub atoms : t.atoms ≤ 64
  pub few : t.rules + t.constraints ≤ 192
  pub formed : well_formed (program_in t) ≡ true
