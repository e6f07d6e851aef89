-- What is proved of the definitions; `proofs/Claims.antt` has the proof of each.
use Rattle.std.specs.Prelude.{true, ◌↔◌, ◌≡◌, ℕ, ◌<◌, length}
use mathlib.Core.List.{List, Memᴰ}
use Rattle.asp.specs.Program.{Rule, Program, State, holds, well_formed}
use Rattle.asp.specs.LeastModel.{consequences}
use Rattle.asp.specs.Least.{Least}
use Rattle.asp.specs.StableModel.{reduct, derived, StableModel, is_stable}
use Rattle.asp.specs.AnswerSet.{normal_rules, IsAnswerSet, OccurringAnswerSet}
use Rattle.asp.specs.Count.{stable_models, count, Enumerates}

-- The rounds give the least model of the reduct: closed, and inside every closed set.
abbrev pub DerivedIsLeast : Type 0
DerivedIsLeast = (P : Program) → well_formed P ≡ true → (X : State) → Least (consequences (reduct X P.rules)) (derived P X)

-- The stable models of document 01 are the answer sets of document 000.
abbrev pub StableIsAnswerSet : Type 0
StableIsAnswerSet = (P : Program) → well_formed P ≡ true → (X : State) → StableModel P X ↔ IsAnswerSet P X

-- The test for a set of the program's atoms says whether it is settled.
abbrev pub TestIsStable : Type 0
TestIsStable = (P : Program) → well_formed P ≡ true → (X : State) → ((a : ℕ) → X a ≡ true → a < P.atoms) → (is_stable P X ≡ true) ↔ StableModel P X

-- The listed stable models are all of them, each once.
abbrev pub StableAreListed : Type 0
StableAreListed = (P : Program) → well_formed P ≡ true → Enumerates (StableModel P) (stable_models P)

-- The count is the number of answer sets of document 000.
abbrev pub CountIsAnswerSets : Type 0
CountIsAnswerSets = (P : Program) → well_formed P ≡ true → (L : List State) → Enumerates (IsAnswerSet P) L → length L ≡ count P

-- An atom of an answer set heads a rule whose body holds in it: a rule of document 000's reduct.
abbrev pub AtomsAreHeads : Type 0
AtomsAreHeads = (P : Program) → well_formed P ≡ true → (X : State) → IsAnswerSet P X → (a : ℕ) → X a ≡ true
    → (r : Rule) × Memᴰ r P.rules × (r.head ≡ a) × (holds X r.body ≡ true)

-- Interpretations over all n atoms and ⊥, or over the variables that occur alone: the answer sets are the same.
abbrev pub AnswerSetsOccur : Type 0
AnswerSetsOccur = (P : Program) → well_formed P ≡ true → (X : State) → IsAnswerSet P X ↔ OccurringAnswerSet (normal_rules P) X

-- So the count is the number of the latter too.
abbrev pub CountIsOccurring : Type 0
CountIsOccurring = (P : Program) → well_formed P ≡ true → (L : List State) → Enumerates (OccurringAnswerSet (normal_rules P)) L → length L ≡ count P
