-- What is proved of choice rules; `proofs/Claims.antt` has the proof of each.
use Rattle.std.specs.Prelude.{true, List, map, ◌↔◌, ◌≡◌, ℕ, eqb, length}
use Rattle.lists.specs.Lists.{filter}
use Rattle.asp.specs.Program.{Program, State, well_formed}
use Rattle.asp.specs.StableModel.{StableModel}
use Rattle.asp.specs.Count.{Enumerates, count}
use Rattle.unfolding.specs.Faithful.{Faithful}
use Rattle.sheet.specs.Sheet.{Record, rule_in, constraints_of, choices, program_of}
use Rattle.sheet.specs.inner.Walk.{AllSound}
use Rattle.choice.specs.Written.{projected, ProjectedAnswerSet, WrittenFaithful}

-- Every atom of the program, the fresh ones too, is one of its atoms.
abbrev pub ExpandedIsFormed : Type 0
ExpandedIsFormed = (n : ℕ) (rs : List Record) → AllSound n rs → well_formed (program_of n rs) ≡ true

-- The program of records without a choice rule: kind 0 is a rule, kind 1 a constraint.
unfoldable pub plain_program : ℕ → List Record → Program
plain_program n rs = record { atoms = n; rules = map rule_in (filter (λ r. eqb r.kind 0) rs); constraints = constraints_of rs }

-- Records without a choice rule have the program that they had.
abbrev pub WithoutChoices : Type 0
WithoutChoices = (n : ℕ) (rs : List Record) → choices rs ≡ 0 → program_of n rs ≡ plain_program n rs

-- Stable models that agree on the written atoms are equal.
abbrev pub WrittenDecide : Type 0
WrittenDecide = (n : ℕ) (rs : List Record) → AllSound n rs → (X Y : State) → StableModel (program_of n rs) X → StableModel (program_of n rs) Y
    → projected n X ≡ projected n Y → X ≡ Y

-- So what is faithful over all atoms is faithful over the written ones.
abbrev pub FaithfulOverWritten : Type 0
FaithfulOverWritten = (n : ℕ) (rs : List Record) → AllSound n rs → (s : List ℕ) → Faithful (program_of n rs) s → WrittenFaithful n (program_of n rs) s

-- Without a choice rule the two say the same.
abbrev pub FaithfulIsOld : Type 0
FaithfulIsOld = (n : ℕ) (rs : List Record) → choices rs ≡ 0 → (s : List ℕ) → WrittenFaithful n (program_of n rs) s ↔ Faithful (program_of n rs) s

-- The count is the number of different cuts of answer sets, too.
abbrev pub CountIsWritten : Type 0
CountIsWritten = (n : ℕ) (rs : List Record) → AllSound n rs → (L : List State) → Enumerates (ProjectedAnswerSet n (program_of n rs)) L → length L ≡ count (program_of n rs)
