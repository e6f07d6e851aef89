-- The edges of the rules of records, in rows: what the steps promise that gather them.
use Rattle.std.specs.Prelude.{Bool, ◌&&◌, ◌||◌, List, ◌≡◌, ℕ, eqb, length, get_or}
use Rattle.lists.specs.Lists.{any, member}
use Rattle.asp.specs.Program.{Rule}
use Rattle.bits.specs.inner.Sets.{has}
use Rattle.bits.specs.inner.Visited.{listed}
use Rattle.tables.specs.declared.SheetRecord.{SheetRecord}
use Rattle.sheet.specs.Sheet.{record_rules, next_fresh, program_of}
use Rattle.components.specs.inner.Reachability.{EdgesOf}
use Rattle.reader.specs.inner.Tabled.{record_of}
use Rattle.translation.specs.inner.Records.{Records, records_in}

-- One of the rules has the head a and the positive atom b.
unfoldable pub leads : List Rule → ℕ → ℕ → Bool
leads rules a b = any (λ r. eqb r.head a && member b r.body.pos) rules

-- Row h has the atoms of the set too.
pub record Linked (h x : ℕ) (old new : List ℕ) : Type 0 where
  pub long : length new ≡ 64
  pub bits : (a b : ℕ) → has (get_or new a 0) b ≡ (eqb h a && member b (listed x) || has (get_or old a 0) b)

-- The rows have the edges of the rules too.
pub record RowsLinked (rules : List Rule) (old new : List ℕ) : Type 0 where
  pub long : length new ≡ 64
  pub bits : (a b : ℕ) → has (get_or new a 0) b ≡ (leads rules a b || has (get_or old a 0) b)

-- The edges of a record's rules, and the fresh atom that comes next.
pub record RecordLinked (r : SheetRecord) (fresh : ℕ) (old new : List ℕ) (then : ℕ) : Type 0 where
  pub rows : RowsLinked (record_rules fresh (record_of r)) old new
  pub next : then ≡ next_fresh fresh (record_of r)

-- The edges of the program of records over n written atoms.
abbrev pub EdgesIn : ℕ → Records → List ℕ → Type 0
EdgesIn n t rows = EdgesOf (program_of n (records_in t)) rows
