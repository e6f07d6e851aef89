-- What making a program of records promises.
use Rattle.std.specs.Prelude.{cond, List, [], ◌∷◌, map, ◌++◌, ◌≡◌, ℕ, ◌+◌, ◌≤◌, eqb, length}
use Rattle.lists.specs.Lists.{filter}
use Rattle.asp.specs.Program.{Rule}
use Rattle.bits.specs.inner.Visited.{listed}
use Rattle.tables.specs.inner.Rows.{row_at}
use Rattle.tables.specs.declared.SheetRecord.{SheetRecord}
use Rattle.tables.specs.declared.ProgramEntry.{ProgramEntry}
use Rattle.program.specs.inner.Held.{added_atom, rule_of, rules_at, ProgramTable, program_in}
use Rattle.sheet.specs.Sheet.{Record, rule_in, adding, choices, program_of}

-- The first k entries of a program.
pub record Entries : Type 0 where
  pub k : ℕ
  pub list : List ℕ

abbrev pub entries : ℕ → List ℕ → Entries
entries k p = record { k = k; list = p }

-- Their rules, where t has the records.
unfoldable pub entries_in : List ℕ → Entries → List Rule
entries_in t e = rules_at t e.list 0 e.k

-- Room for so many entries more.
pub record Room (more : ℕ) (e : Entries) : Type 0 where
  pub long : length e.list ≡ 192
  pub room : e.k + more ≤ 192

-- The entries e, with more behind them, where the record x stands at the source.
pub record Appended (source : ℕ) (x : SheetRecord) (e : Entries) (more : List Rule) (r : Entries) : Type 0 where
  pub long : Room 0 r
  pub is : (t : List ℕ) → x ≡ row_at t source → entries_in t r ≡ entries_in t e ++ more
  pub size : r.k ≡ e.k + length more

-- The rule of an entry, with the sets of a record.
unfoldable pub entry_rule : ProgramEntry → SheetRecord → Rule
entry_rule x y = rule_of (record { head = x.head; pos = y.pos; neg = y.neg; added = x.added })

-- The entries e, with the entry x behind them, whatever stands at its source.
pub record EntryAppended (e : Entries) (x : ProgramEntry) (r : Entries) : Type 0 where
  pub appended : (y : SheetRecord) → Appended x.source y e (entry_rule x y ∷ []) r

-- What is entered for the atom a, which is added to the negative ones.
pub record AddedTo (neg a r : ℕ) : Type 0 where
  pub is : listed neg ++ added_atom r ≡ adding a (listed neg)

-- A constraint stands in the table as a rule whose head means nothing.
unfoldable pub constraint_of : Record → List Rule
constraint_of r = cond (eqb r.kind 1) (rule_in r ∷ []) []

unfoldable pub constraints_from : List Record → List Rule
constraints_from rs = map rule_in (filter (λ r. eqb r.kind 1) rs)

-- The table holds the program of the records over n written atoms.
pub record Translated (n : ℕ) (rs : List Record) (r : ProgramTable) : Type 0 where
  pub atoms : r.atoms ≡ n + choices rs
  pub few : r.rules + r.constraints ≤ 192
  pub is : program_in r ≡ program_of n rs
