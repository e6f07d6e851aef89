-- The published meaning of the lparse format (Simons, Niemelä and Soininen, "Extending and implementing the stable model semantics", 2002), and
-- when a program in it has the settled states of a sheet.
use Rattle.std.specs.Prelude.{true, cond, ◌&&◌, ◌≡◌, ℕ, ltb, length}
use mathlib.Core.List.{List, [], ◌∷◌, map, flat_map}
use Rattle.lists.specs.Lists.{all, filter}
use Rattle.asp.specs.Program.{Program, State, outside}
use Rattle.asp.specs.LeastModel.{Definite, consequences}
use Rattle.asp.specs.Least.{Least}
use Rattle.asp.specs.StableModel.{StableModel}
use Rattle.asp.specs.Count.{Enumerates, count}
use Rattle.choice.specs.Written.{projected}
use Rattle.lparse_format.specs.Program.{LparseRule, basic, choice, LparseProgram, lparse_atom}

-- The reduct of a rule by X: nothing where a negative atom is in X; else, without its negative atoms, a basic rule itself, and of a choice rule
-- one rule for each of its heads that X has.
unfoldable pub rule_reduct : State → LparseRule → List Definite
rule_reduct X (basic head b) = cond (outside X b.neg) (record { head = head; pos = b.pos } ∷ []) []
rule_reduct X (choice heads b) = cond (outside X b.neg) (map (λ h. record { head = h; pos = b.pos }) (filter X heads)) []

-- A stable model: the least set that is closed under its reduct, with all of B+ and nothing of B-.
pub record LparseModel (E : LparseProgram) (X : State) : Type 0 where
  pub least : Least (consequences (flat_map (rule_reduct X) E.rules)) X
  pub plus : all X E.plus ≡ true
  pub minus : outside X E.minus ≡ true

-- The cut of a set of the format's atoms to n written atoms: a below n is in where a + 2 was.
unfoldable pub written_part : ℕ → State → State
written_part n Y a = ltb a n && Y (lparse_atom a)

-- The stable models of E, cut to n written atoms, are exactly the stable models of P cut to the same, each once.
pub record SameModels (n : ℕ) (P : Program) (E : LparseProgram) : Type 0 where
  -- Every stable model of E has the cut of one of P.
  pub projects : (Y : State) → LparseModel E Y → (X : State) × StableModel P X × (written_part n Y ≡ projected n X)
  -- Every stable model of P has the cut of one of E.
  pub lifts : (X : State) → StableModel P X → (Y : State) × LparseModel E Y × (written_part n Y ≡ projected n X)
  -- Those of E with the same cut are equal, and so are those of P.
  pub one_each : (Y Y' : State) → LparseModel E Y → LparseModel E Y' → written_part n Y ≡ written_part n Y' → Y ≡ Y'
  pub one_stable : (X X' : State) → StableModel P X → StableModel P X' → projected n X ≡ projected n X' → X ≡ X'
  -- So a list of those of E, each once, is as long as the count says.
  pub counted : (L : List State) → Enumerates (LparseModel E) L → length L ≡ count P
