-- The numbers that questions have: which of them answers which.
use mathlib.Core.Bool.{Bool, true, false}
use mathlib.Core.List.{List, [], ◌∷◌}
use mathlib.Core.Path.{◌≡◌, sym, ◌∙◌, ap₂, subst}
use Prim.Native.Nat.{ℕ, zero, suc, ◌≤◌}
use native.Mathlib.Omega.{arith}
use borrow.Author.Tests.{eqb-true}
use lib.Dec.{eqb}
use Rattle.lists.proofs.Bools.{by_bool}
use Rattle.sheet.specs.Questions.{ask, ◌then◌, first_refusal}
use Rattle.sheet.specs.inner.Walk.{record_refusal, records_refusal, form_refusal}
use Rattle.sheet.specs.Format.{atoms_byte, records_byte, end, record_questions, records_questions, form_questions}
use Rattle.sheet.specs.Sheet.{program}
use Rattle.sheet.specs.declared.Limits.{Limits}
use Rattle.sheet.proofs.Questions.{then_passed, first_append}
use Rattle.operations.specs.Questions.{question13, question7, question15, question8, question16}
use Rattle.operations.specs.Calls.{Call, Input, sheet, with_sequence, describe}
use Rattle.operations.specs.Calls as call
use Rattle.operations.specs.inner.Refusals.{sheet_refusal, input_refusal, call_refusal}
use Rattle.operations.proofs.Questions.{bytes_parted, graph_parted, sheet_parted, sequence_parted, sheet_alone, call_parted}

-- A number other than j.
abbrev pub Other : ℕ → ℕ → Type 0
Other j k = k ≡ j → ⊥

-- What holds of 0 and of a question's number holds of its answer.
pub ask_holds : (Q : ℕ → Type 0) (b : Bool) (k : ℕ) → Q 0 → Q k → Q (ask b k)
unfolding ask
ask_holds Q true k z h = z
ask_holds Q false k z h = h

-- What follows is asked only where nothing was refused before.
pub then_holds : (Q : ℕ → Type 0) (a b : ℕ) → Q a → (a ≡ 0 → Q b) → Q (a then b)
unfolding ◌then◌
then_holds Q a b h g = by_bool (eqb a 0) (λ t. rw t (g (eqb-true a 0 t))) (λ f. rw f h)

-- A number that the first question does not have comes from those behind it.
pub then_behind : (a b k : ℕ) → (a ≡ k → ⊥) → a then b ≡ k → (a ≡ 0) × (b ≡ k)
unfolding ◌then◌
then_behind a b k ne e = by_bool (eqb a 0) (λ t. (eqb-true a 0 t, rw t at e)) (λ f. absurd (ne (rw f at e)))

-- Questions with numbers up to `most`.
module _ (most : ℕ) where
  ask_most : (b : Bool) (k : ℕ) → k ≤ most → ask b k ≤ most
  ask_most b k l = ask_holds (λ k. k ≤ most) b k (omega arith) l

  then_most : (a b : ℕ) → a ≤ most → b ≤ most → (a then b) ≤ most
  then_most a b l m = then_holds (λ k. k ≤ most) a b l (λ _. m)

  one_most : (b : Bool) (k : ℕ) → k ≤ most → first_refusal (ask b k ∷ []) ≤ most
  unfolding first_refusal
  one_most b k l = then_most (ask b k) 0 (ask_most b k l) (omega arith)

  two_most : (b d : Bool) (j k : ℕ) → j ≤ most → k ≤ most → first_refusal (ask b j ∷ ask d k ∷ []) ≤ most
  unfolding first_refusal
  two_most b d j k l m = then_most (ask b j) _ (ask_most b j l) (one_most d k m)

-- Questions 1 to 6.
record_most : (n : ℕ) (s : List ℕ) (at : ℕ) → record_refusal n s at ≤ 6
unfolding record_questions first_refusal
record_most n s at = then_most 6 _ _ (ask_most 6 _ 4 (omega arith)) (two_most 6 _ _ 5 6 (omega arith) (omega arith))

records_most : (k n : ℕ) (s : List ℕ) (at : ℕ) → records_refusal k n s at ≤ 6
unfolding records_questions
records_most zero n s at = one_most 6 _ 4 (omega arith)
records_most (suc k) n s at =
    rw (first_append (record_questions n s at) (records_questions k n s (end s at)))
    (then_most 6 _ _ (record_most n s at) (records_most k n s (end s at)))

form_most : (L : Limits) (s : List ℕ) → form_refusal L s ≤ 6
unfolding form_questions first_refusal
form_most L s =
    then_most 6 _ _ (ask_most 6 _ 1 (omega arith)) (then_most 6 _ _ (ask_most 6 _ 2 (omega arith))
    (then_most 6 _ _ (ask_most 6 _ 3 (omega arith)) (records_most (records_byte s) (atoms_byte s) s 5)))

-- What a call asks behind the questions about what it is given: 9 to 12 and 14.
further_most : (c : Call) → first_refusal (describe c).further ≤ 14
unfolding describe first_refusal
further_most (call.read s) = omega arith
further_most (call.body i s) = one_most 14 _ 12 (omega arith)
further_most (call.components s old) = one_most 14 _ 10 (omega arith)
further_most (call.default s old) = one_most 14 _ 10 (omega arith)
further_most (call.lparse s old) = one_most 14 _ 10 (omega arith)
further_most (call.test s q) = one_most 14 _ 9 (omega arith)
further_most (call.missing s q old) = two_most 14 _ _ 14 10 (omega arith) (omega arith)
further_most (call.unfolded s q old) = two_most 14 _ _ 9 10 (omega arith) (omega arith)
further_most (call.clauses s q old) = two_most 14 _ _ 9 10 (omega arith) (omega arith)
further_most (call.count s) = one_most 14 _ 11 (omega arith)

-- What holds of the numbers of questions holds of the first no.
module _ (Q : ℕ → Type 0) (L : Limits) where
  -- It holds of questions 15 and 16, where the format's questions about the same are passed.
  abbrev pub FifteenHolds : List ℕ → Type 0
  FifteenHolds s = question13 L s ≡ 0 → question7 L (program s) ≡ 0 → Q (question15 L (program s))

  unfoldable pub ServiceHolds : Input → Type 0
  ServiceHolds (sheet s) = FifteenHolds s
  ServiceHolds (with_sequence s q) = FifteenHolds s × (question8 L s q ≡ 0 → Q (question16 L q))

  -- The format's questions about a sheet and a sequence are 1 to 8 and 13.
  module _ (low : (k : ℕ) → k ≤ 13 → Q k) where
    low_ask : (b : Bool) (k : ℕ) → k ≤ 13 → Q (ask b k)
    low_ask b k l = low (ask b k) (ask_most 13 b k l)

    sheet_holds : (s : List ℕ) → FifteenHolds s → Q (sheet_refusal L s)
    sheet_holds s own =
        let P = program s in
        let form = then_holds Q (form_refusal L s) (question13 L s) (low (form_refusal L s) (omega (arith, form_most L s))) (λ _. low_ask _ 13 (omega arith)) in
        subst Q (sym (sheet_parted L s ∙ ap₂ ◌then◌ (bytes_parted L s) (graph_parted L P)))
        (then_holds Q (form_refusal L s then question13 L s) (question7 L P then question15 L P) form (λ z.
        then_holds Q (question7 L P) (question15 L P) (low_ask _ 7 (omega arith)) (λ y. own (then_passed (form_refusal L s) (question13 L s) z).1 y)))

    pub input_holds : (input : Input) → ServiceHolds input → Q (input_refusal L input)
    unfolding ServiceHolds
    input_holds (sheet s) own = subst Q (sym (sheet_alone L s)) (sheet_holds s own)
    input_holds (with_sequence s q) (own, owns) =
        subst Q (sym (sequence_parted L s q))
        (then_holds Q (sheet_refusal L s) _ (sheet_holds s own) (λ _. then_holds Q (question8 L s q) (question16 L q) (low_ask _ 8 (omega arith)) owns))

  pub call_holds : ((k : ℕ) → k ≤ 14 → Q k) → (c : Call) → ServiceHolds (describe c).input → Q (call_refusal L c)
  call_holds low c own =
      subst Q (sym (call_parted L c))
      (then_holds Q (input_refusal L (describe c).input) (first_refusal (describe c).further) (input_holds (λ k l. low k (omega arith)) (describe c).input own)
      (λ _. low _ (further_most c)))
