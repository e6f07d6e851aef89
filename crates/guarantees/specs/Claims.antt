-- What is proved of questions, outputs and demands beside the demands themselves; `proofs/Claims.antt` has the proof.
use Rattle.std.specs.Prelude.{true, ◌↔◌, ◌≡◌, ℕ, ◌≤◌, ℤ, length, take}
use mathlib.Core.List.{List, [], ◌∷◌, Forall₂}
use Rattle.lists.specs.Lists.{any, filter, member, range}
use Rattle.asp.specs.Program.{Program}
use Rattle.unfolding.specs.Unfolded.{words}
use Rattle.unfolding.specs.Decoded.{read_unfolded, nameless}
use Rattle.unfolding.specs.Clauses.{clauses, variables, signed_words}
use Rattle.unfolding.specs.Faithful.{Faithful}
use Rattle.unfolding.specs.Shortened.{unshortened, Shortens}
use Rattle.sheet.specs.Questions.{AllYes}
use Rattle.sheet.specs.Format.{atoms_byte, limited}
use Rattle.sheet.specs.Sequence.{entries}
use Rattle.sheet.specs.Sheet.{records, choices, program}
use Rattle.sheet.specs.declared.Limits.{Limits}
use Rattle.choice.specs.Written.{WrittenFaithful}
use Rattle.choice.specs.Claims.{plain_program}
use Rattle.counting.specs.DecisionAtoms.{decision_atoms}
use Rattle.operations.specs.Outcome.{answered}
use Rattle.operations.specs.Outputs.{lparse_output, missing_output}
use Rattle.operations.specs.Questions.{question13, sheet_questions}
use Rattle.operations.specs.Calls.{naturals, integers, Service}
use Rattle.operations.specs.Calls as call
use Rattle.guarantees.specs.Demands.{Demand1}

-- The atoms that stand in the negative list of some rule.
unfoldable pub negated_atoms : Program → List ℕ
negated_atoms P = filter (λ a. any (λ r. member a r.body.neg) P.rules) (range 0 P.atoms)

-- A sheet without choice rules is what it was before there were any, so every promise says of it what it said.
pub record AsBefore (L : Limits) (s : List ℕ) : Type 0 where
  -- Its program: kind 0 is a rule, kind 1 a constraint, and there are no fresh atoms.
  pub same : program s ≡ plain_program (atoms_byte s) (records s)
  -- Question 13 refuses nothing that question 3 has passed.
  pub thirteen : limited L s ≡ true → question13 L s ≡ 0
  -- Question 11 counts the atoms that are negated in rules.
  pub eleven : decision_atoms (atoms_byte s) (records s) ≡ negated_atoms (program s)
  -- Demand 3 over the written atoms is demand 3 over all.
  pub faithful : (q : List ℕ) → WrittenFaithful (atoms_byte s) (program s) q ↔ Faithful (program s) q

abbrev pub OldAnswersStay : Type 0
OldAnswersStay = (L : Limits) (s : List ℕ) → choices (records s) ≡ 0 → AsBefore L s

-- What is written is what was written before rules that read a copy without a rule were dropped, with rules left out.
pub record Shorter (S : Service) : Type 0 where
  -- The l words of the unfolded program, read back, have each copy with some of its old rules, in their order, and are no more than there were.
  pub unfolds : (s q old new : List ℕ) (l : ℕ) → S (call.unfolded s q old) (answered (l ∷ [])) (naturals new)
      → Forall₂ Shortens (read_unfolded (take l new)).copies (nameless (unshortened (program s) (entries q))).copies
      × (l ≤ length (words (unshortened (program s) (entries q))))
  -- There are no more words of clauses, variables and clauses.
  pub derives : (s q : List ℕ) (old new : List ℤ) (l v c : ℕ) → S (call.clauses s q old) (answered (l ∷ v ∷ c ∷ [])) (integers new)
      → (l ≤ length (signed_words (clauses (unshortened (program s) (entries q)))))
      × (v ≤ variables (unshortened (program s) (entries q)))
      × (c ≤ length (clauses (unshortened (program s) (entries q))))

-- So it is of every service that meets demand 1.
abbrev pub OutputsShorten : Type 1
OutputsShorten = (L : Limits) (S : Service) → Demand1 L S → Shorter S

-- No lparse text of a sheet that is not refused is longer than 49,088 bytes, where no more than 64 atoms and 128 records are allowed.
abbrev pub LparseFits : Type 0
LparseFits = (L : Limits) → L.atoms ≤ 64 → L.records ≤ 128 → (s : List ℕ) → AllYes (sheet_questions L s) → length (lparse_output s) ≤ 49088

-- No missing chain has more atoms than the service takes in a component.
abbrev pub MissingFits : Type 0
MissingFits = (L : Limits) (s q : List ℕ) → AllYes (sheet_questions L s) → length (missing_output s q) ≤ L.taken.component
