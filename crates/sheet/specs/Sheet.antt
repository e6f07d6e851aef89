-- What a sheet's bytes say: its records, and its program.
use Rattle.std.specs.Prelude.{cond, List, [], ◌∷◌, ◌++◌, map, ℕ, zero, suc, ◌+◌, eqb, length}
use Rattle.lists.specs.Lists.{filter, member}
use Rattle.asp.specs.Program.{Body, Rule, Program}
use Rattle.sheet.specs.Format.{atoms_byte, records_byte, kind, head, pos_of, neg_of, end}

-- A record of the sheet.
pub record Record : Type 0 where
  pub kind : ℕ
  pub head : ℕ
  pub body : Body

-- The record whose bytes start at `at`.
unfoldable pub record_at : List ℕ → ℕ → Record
record_at s at = record { kind = kind s at; head = head s at; body = record { pos = pos_of s at; neg = neg_of s at } }

-- The k records from `at` on.
unfoldable pub records_from : ℕ → List ℕ → ℕ → List Record
records_from zero s at = []
records_from (suc k) s at = record_at s at ∷ records_from k s (end s at)

-- All records of the sheet.
unfoldable pub records : List ℕ → List Record
records s = records_from (records_byte s) s 5

-- The rule of a record's head and body.
abbrev pub rule_in : Record → Rule
rule_in r = record { head = r.head; body = r.body }

-- The list with the atom behind it, unless the atom is there already.
unfoldable pub adding : ℕ → List ℕ → List ℕ
adding a l = cond (member a l) l (l ++ (a ∷ []))

-- The rule: head if body and not a.
unfoldable pub unless : ℕ → Body → ℕ → Rule
unless head b a = record { head = head; body = record { pos = b.pos; neg = adding a b.neg } }

-- The rules of a record, f being its fresh atom: of kind 0 its rule; of kind 2, a choice rule, `head if body and not f` and
-- `f if body and not head`; of kind 1 none.
unfoldable pub record_rules : ℕ → Record → List Rule
record_rules f r =
    cond (eqb r.kind 0) (rule_in r ∷ [])
    (cond (eqb r.kind 2) (unless r.head r.body f ∷ unless f r.body r.head ∷ []) [])

-- The fresh atom of the choice rule that comes next.
unfoldable pub next_fresh : ℕ → Record → ℕ
next_fresh f r = cond (eqb r.kind 2) (suc f) f

-- The rules of the records, each record's in its place; fresh atoms are numbered from f, in record order.
unfoldable pub rules_of : ℕ → List Record → List Rule
rules_of f [] = []
rules_of f (r ∷ rs) = record_rules f r ++ rules_of (next_fresh f r) rs

-- The bodies of the records of kind 1.
unfoldable pub constraints_of : List Record → List Body
constraints_of rs = map (λ r. r.body) (filter (λ r. eqb r.kind 1) rs)

-- The number of choice rules, and so of fresh atoms.
unfoldable pub choices : List Record → ℕ
choices rs = length (filter (λ r. eqb r.kind 2) rs)

-- The program of records over n written atoms; behind these come the fresh ones.
unfoldable pub program_of : ℕ → List Record → Program
program_of n rs = record { atoms = n + choices rs; rules = rules_of n rs; constraints = constraints_of rs }

-- The program of a sheet.
unfoldable pub program : List ℕ → Program
program s = program_of (atoms_byte s) (records s)
