-- What a solver reads in the lparse (smodels) format, and what a sheet gives it to read (document 02, W3).
use Rattle.std.specs.Prelude.{cond, List, [], ◌∷◌, ◌++◌, map, ℕ, ◌+◌, eqb}
use Rattle.lists.specs.Lists.{range}
use Rattle.asp.specs.Program.{Body}
use Rattle.sheet.specs.Sheet.{Record}
use Rattle.text.specs.Text.{ascii, decimal}

-- A rule, over atoms from 1 on: a basic rule (type 1), or a choice rule (type 3) with the atoms that may be chosen.
pub data LparseRule : Type 0 where
  basic : (head : ℕ) (body : Body) → LparseRule
  choice : (heads : List ℕ) (body : Body) → LparseRule

-- An atom and its name, of the symbol table.
pub record Symbol : Type 0 where
  pub atom : ℕ
  pub name : List ℕ

-- The rules, the symbol table, the atoms of B+ (all must be in), those of B- (all must be out), and how many models are asked for.
pub record LparseProgram : Type 0 where
  pub rules : List LparseRule
  pub symbols : List Symbol
  pub plus : List ℕ
  pub minus : List ℕ
  pub models : ℕ

-- Atom a becomes a + 2.
abbrev pub lparse_atom : ℕ → ℕ
lparse_atom a = a + 2

-- A body with its atoms' new numbers.
unfoldable pub lparse_body : Body → Body
lparse_body b = record { pos = map lparse_atom b.pos; neg = map lparse_atom b.neg }

-- The rule of a record: atom 1 stands as head of a constraint (kind 1), a choice rule (kind 2) has type 3.
unfoldable pub lparse_rule : Record → LparseRule
lparse_rule r =
    cond (eqb r.kind 1) (basic 1 (lparse_body r.body))
    (cond (eqb r.kind 2) (choice (lparse_atom r.head ∷ []) (lparse_body r.body)) (basic (lparse_atom r.head) (lparse_body r.body)))

-- The symbol of atom a: its name is a0, a1 and so on.
unfoldable pub symbol : ℕ → Symbol
symbol a = record { atom = lparse_atom a; name = ascii "a" ++ decimal a }

-- The program of n written atoms and records: the rules in sheet order, a name for every written atom, B+ empty, atom 1 in B-, one model asked for.
unfoldable pub lparse_program : ℕ → List Record → LparseProgram
lparse_program n rs = record { rules = map lparse_rule rs; symbols = map symbol (range 0 n); plus = []; minus = 1 ∷ []; models = 1 }
