-- The lists of questions, parted where the code parts them.
use mathlib.Core.Bool.{true, ◌&&◌}
use mathlib.Core.List.{List, [], ◌∷◌, ◌++◌}
use mathlib.Core.Path.{◌≡◌, refl, sym, ◌∙◌, ap}
use Prim.Native.Nat.{ℕ, ◌+◌, ◌≤◌}
use native.Mathlib.Omega.{arith}
use borrow.Author.Tests.{leb-true}
use lib.Dec.{leb}
use Rattle.lists.proofs.Bools.{and_left, and_right}
use Rattle.asp.specs.Program.{Program}
use Rattle.sheet.specs.Questions.{◌then◌, first_refusal}
use Rattle.sheet.specs.inner.Walk.{form_refusal}
use Rattle.sheet.specs.Format.{atoms_byte, form_questions}
use Rattle.sheet.specs.Sheet.{records, choices, program_of, program}
use Rattle.sheet.specs.declared.Limits.{Limits}
use Rattle.sheet.proofs.Questions.{then_none, then_passed, ask_passed, first_append}
use Rattle.components.specs.Limit.{components_fit}
use Rattle.operations.specs.Questions.{question13, question7, question15, question8, question16, question9, bytes_questions, graph_questions, sheet_questions}
use Rattle.operations.specs.Calls.{Call, sheet, with_sequence, describe, input_questions, questions}
use Rattle.operations.specs.Calls as call
use Rattle.operations.specs.inner.Refusals.{bytes_refusal, graph_refusal, sheet_refusal, input_refusal, call_refusal}

-- One question behind a list of them.
one_behind : (asked : List ℕ) (k : ℕ) → first_refusal (asked ++ (k ∷ [])) ≡ first_refusal asked then k
unfolding first_refusal
one_behind asked k = first_append asked (k ∷ []) ∙ ap (λ r. first_refusal asked then r) (then_none k)

pub bytes_parted : (L : Limits) (s : List ℕ) → bytes_refusal L s ≡ form_refusal L s then question13 L s
unfolding bytes_questions
bytes_parted L s = one_behind (form_questions L s) (question13 L s)

pub graph_parted : (L : Limits) (P : Program) → graph_refusal L P ≡ question7 L P then question15 L P
unfolding graph_questions first_refusal
graph_parted L P = ap (λ r. question7 L P then r) (then_none (question15 L P))

pub sheet_parted : (L : Limits) (s : List ℕ) → sheet_refusal L s ≡ bytes_refusal L s then graph_refusal L (program s)
unfolding sheet_questions
sheet_parted L s = first_append (bytes_questions L s) (graph_questions L (program s))

-- What is asked of the sheet is asked before the sequence.
pub sequence_parted : (L : Limits) (s q : List ℕ) → input_refusal L (with_sequence s q) ≡ sheet_refusal L s then (question8 L s q then question16 L q)
unfolding input_questions first_refusal
sequence_parted L s q =
    first_append (sheet_questions L s) (question8 L s q ∷ question16 L q ∷ [])
    ∙ ap (λ r. sheet_refusal L s then (question8 L s q then r)) (then_none (question16 L q))

pub sheet_alone : (L : Limits) (s : List ℕ) → input_refusal L (sheet s) ≡ sheet_refusal L s
unfolding input_questions
sheet_alone L s = refl

-- Where nothing is asked behind a sheet.
pub nothing_behind : (L : Limits) (s : List ℕ) → input_refusal L (sheet s) then first_refusal [] ≡ sheet_refusal L s
unfolding input_questions first_refusal
nothing_behind L s = then_none (sheet_refusal L s)

-- What a call is given is asked about first.
pub call_parted : (L : Limits) (c : Call) → call_refusal L c ≡ input_refusal L (describe c).input then first_refusal (describe c).further
unfolding questions
call_parted L c = first_append (input_questions L (describe c).input) (describe c).further

-- What reading accepts has passed questions 1 to 6, 13, 7 and 15.
pub record Passed (L : Limits) (s : List ℕ) : Type 0 where
  pub form : form_refusal L s ≡ 0
  pub atoms : (program s).atoms ≤ L.atoms
  pub components : components_fit L.component (program s) ≡ true
  pub taken_atoms : (program s).atoms ≤ L.taken.atoms
  pub taken_components : components_fit L.taken.component (program s) ≡ true

pub sheet_passed : (L : Limits) (s : List ℕ) → sheet_refusal L s ≡ 0 → Passed L s
unfolding program program_of
sheet_passed L s z =
    let a = then_passed (bytes_refusal L s) (graph_refusal L (program s)) (sym (sheet_parted L s) ∙ z) in
    let b = then_passed (form_refusal L s) (question13 L s) (sym (bytes_parted L s) ∙ a.0) in
    let c = then_passed (question7 L (program s)) (question15 L (program s)) (sym (graph_parted L (program s)) ∙ a.1) in
    let few = leb (program s).atoms L.taken.atoms in
    let small = components_fit L.taken.component (program s) in
    let d = ask_passed (few && small) 15 (λ e. omega arith) c.1 in
    record {
      form = b.0;
      atoms = leb-true (atoms_byte s + choices (records s)) L.atoms (ask_passed (leb (atoms_byte s + choices (records s)) L.atoms) 13 (λ e. omega arith) b.1);
      components = ask_passed (components_fit L.component (program s)) 7 (λ e. omega arith) c.0;
      taken_atoms = leb-true (program s).atoms L.taken.atoms (and_left few small d);
      taken_components = and_right few small d;
    }

-- Testing a sequence asks question 9 behind the questions about what is given.
pub test_parted : (L : Limits) (s q : List ℕ) → call_refusal L (call.test s q) ≡ input_refusal L (with_sequence s q) then first_refusal (question9 s q ∷ [])
unfolding describe
test_parted L s q = call_parted L (call.test s q)
