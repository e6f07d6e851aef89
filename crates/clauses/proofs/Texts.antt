-- The text for an input: the clauses that are answered as written, or the refusal.
use mathlib.Core.Bool.{true, false}
use mathlib.Core.List.{List, [], ◌∷◌, ◌++◌, flat_map, Memᴰ}
use mathlib.Core.Path.{◌≡◌, refl, sym, ◌∙◌, ap, subst}
use Prim.Native.Nat.{ℕ, ◌+◌, ◌-◌, ◌*◌, ◌≤◌, ◌<◌}
use native.Mathlib.Nat.{sub-zero}
use native.Mathlib.Omega.{arith}
use borrow.Author.Tests.{eq-eqb, leb-true}
use lib.Dec.{eqb, leb}
use lib.IntN.{ℤ, pos}
use lib.ListN.{length, length-append, length-replicate, take, drop}
use lib.Seq.{take-append_seam}
use Rattle.unfolding.specs.Clauses.{Literal, Clause, variable_of}
use Rattle.unfolding.specs.Faithful.{clauses_of, variables_of}
use Rattle.unfolding.specs.Claims.{Accepted}
use Rattle.unfolding.proofs.Claims.{literals_are_numbered}
use Rattle.std.proofs.Common.{Result, Ok, Err}
use Rattle.refusals.specs.declared.Refusal.{Refusal}
use Rattle.refusals.specs.Numbers.{number}
use Rattle.refusals.proofs.Asking.{number_small}
use Rattle.sheet.specs.Sequence.{entries}
use Rattle.sheet.specs.Sheet.{program}
use Rattle.sheet.specs.Questions.{first_refusal}
use Rattle.sheet.proofs.Questions.{ask_passed, then_passed}
use Rattle.writer.specs.inner.Wrote.{Wrote}
use Rattle.writer.proofs.Writing.{wrote_front}
use Rattle.text.specs.Text.{refused_text}
use Rattle.dimacs.specs.Text.{sheet_of, sequence_of, header_text, clause_text, dimacs_text}
use Rattle.dimacs.specs.inner.Words.{words_text}
use Rattle.text.proofs.Lines.{refused_short}
use Rattle.dimacs.proofs.Lines.{header_short}
use Rattle.dimacs.proofs.Clauses.{clauses_text_lem, words_short, words_small}
use Rattle.operations.specs.Outcome.{answered, from_clauses}
use Rattle.operations.specs.Outputs.{clauses_output, clause_numbers}
use Rattle.operations.specs.Questions.{question9, question10}
use Rattle.operations.specs.Calls.{with_sequence, integers, over, describe, input_questions, questions, Promised}
use Rattle.operations.specs.Calls as call
use Rattle.operations.specs.declared.ClauseNumbers.{ClauseNumbers}
use Rattle.operations.specs.inner.Refusals.{input_refusal, call_refusal}
use Rattle.operations.proofs.Promises.{promised_number, promised_passed, promised_values, promised_written}
use Rattle.guarantees.proofs.Accepting.{call_passed, both_accepted}
use Rattle.office.specs.Office.{office}
use Rattle.clauses.specs.Printed.{lent_words, refusal, clauses_text, printed, Prints}
use Rattle.clauses.proofs.Sizes.{variables_few, clauses_few}

-- A text that fits stands at the beginning of the buffer.
prints_text : (input text old new : List ℕ) (next : ℕ) → Wrote old 0 text new next → length text ≤ length old → text ≡ printed input → Prints input new next
prints_text input text old new next W l e = let front = wrote_front old text new next W l in record { inside = front.0; text = front.1 ∙ e }

module _ (s q : List ℕ) (old new : List ℤ) (r : Result ClauseNumbers Refusal) (E : Promised office (call.clauses s q old) (from_clauses r) (integers new)) where
  abbrev asked : ℕ
  asked = call_refusal office (call.clauses s q old)

  abbrev output : List ℤ
  output = clauses_output s q

  -- The number of a refusal is that of the first question whose answer is no.
  refused_says : (x : Refusal) → r ≡ Err x → (number x ≡ asked) × (eqb asked 0 ≡ false)
  refused_says x e =
      promised_number office (call.clauses s q old) (integers new) (number x) (subst (λ o. Promised office (call.clauses s q old) o (integers new)) (ap from_clauses e) E)

  module _ (n : ClauseNumbers) (e : r ≡ Ok n) where
    abbrev k : ℕ
    k = n.words

    abbrev v : ℕ
    v = n.variables

    abbrev c : ℕ
    c = n.clauses

    promised : Promised office (call.clauses s q old) (answered (k ∷ v ∷ c ∷ [])) (integers new)
    promised = subst (λ o. Promised office (call.clauses s q old) o (integers new)) (ap from_clauses e) E

    passed : asked ≡ 0
    passed = promised_passed office (call.clauses s q old) (integers new) (k ∷ v ∷ c ∷ []) promised

    same : answered (k ∷ v ∷ c ∷ []) ≡ answered (length output ∷ clause_numbers s q)
    unfolding describe
    same = promised_values office (call.clauses s q old) (integers new) (k ∷ v ∷ c ∷ []) promised

    long : k ≡ length output
    long = cc same

    numbers : (v ≡ variables_of (program s) (entries q)) × (c ≡ length (clauses_of (program s) (entries q)))
    unfolding clause_numbers
    numbers = (cc same, cc same)

    whole : new ≡ over output old
    unfolding describe
    whole = let w : integers new ≡ integers (over output old) = promised_written office (call.clauses s q old) (integers new) (k ∷ v ∷ c ∷ []) promised in cc w

    pub written_inside : k ≤ length new
    written_inside = let l = long in let w = ap length whole ∙ length-append output (drop (length output) old) in omega arith

    front : take k new ≡ output
    front = ap (λ j. take j new) long ∙ (ap (take (length output)) whole ∙ take-append_seam output (drop (length output) old))

    asked_parts : (input_refusal office (with_sequence s q) ≡ 0) × (question9 s q ≡ 0) × (question10 output (length old) ≡ 0)
    unfolding describe first_refusal
    asked_parts =
        let parts = call_passed office (call.clauses s q old) passed in
        let behind = then_passed (question9 s q) _ parts.1 in
        (parts.0, behind.0, (then_passed (question10 output (length old)) 0 behind.1).0)

    fits : length output ≤ length old
    fits = leb-true (length output) (length old) (ask_passed (leb (length output) (length old)) 10 (λ z. omega arith) asked_parts.2)

    accepted : Accepted (program s) (entries q)
    accepted = both_accepted office s q asked_parts.0 asked_parts.1

    few : 2 * variables_of (program s) (entries q) ≤ length output
    unfolding clauses_output
    few = variables_few (program s) (entries q)

    module _ (size : length old ≡ 16384) where
      numbered : (d : Clause) → Memᴰ d (clauses_of (program s) (entries q)) → (l : Literal) → Memᴰ l d → (1 ≤ variable_of l) × (variable_of l < 10000)
      numbered d m l n =
          let h = literals_are_numbered (program s) (entries q) accepted d m l n in
          let b = h.1 in
          let f = few in
          let g = fits in
          (h.0, omega arith)

      short : length (words_text output) ≤ 98304
      unfolding clauses_output
      short =
          let h = words_short output (words_small 10000 (clauses_of (program s) (entries q)) (omega arith) (λ d m l n. (numbered d m l n).1)) in
          let f = fits in
          omega arith

      pub text_short : (buffer : List ℕ) → 98352 ≤ length buffer → 48 + length (words_text (take (k - 0) new)) ≤ length buffer
      text_short buffer b = let h = short in let g = ap (λ ws. length (words_text ws)) (ap (λ j. take j new) (sub-zero k) ∙ front) in omega arith

      whole_text_lem : header_text v c ++ words_text (take (k - 0) new) ≡ dimacs_text (variables_of (program s) (entries q)) (clauses_of (program s) (entries q))
      unfolding dimacs_text clauses_output
      whole_text_lem =
          let n = numbers in
          ap (λ ws. header_text v c ++ words_text ws) (ap (λ j. take j new) (sub-zero k) ∙ front)
          ∙ (ap (λ t. header_text v c ++ t) (clauses_text_lem (clauses_of (program s) (entries q)) (λ d m l n. (numbered d m l n).0))
          ∙ (ap (λ x. header_text x c ++ flat_map clause_text (clauses_of (program s) (entries q))) n.0
          ∙ ap (λ x. header_text (variables_of (program s) (entries q)) x ++ flat_map clause_text (clauses_of (program s) (entries q))) n.1))

      text_fits : length (header_text v c ++ words_text (take (k - 0) new)) ≤ 98352
      unfolding clauses_output
      text_fits =
          let n = numbers in
          let v_is = n.0 in
          let c_is = n.1 in
          let f = few in
          let g = fits in
          let a = clauses_few (clauses_of (program s) (entries q)) in
          let b = header_short v (record { fits = omega arith }) c (record { fits = omega arith }) in
          let h = short in
          let d = ap (λ ws. length (words_text ws)) (ap (λ j. take j new) (sub-zero k) ∙ front) in
          let t = length-append (header_text v c) (words_text (take (k - 0) new)) in
          omega arith

lent_size : length lent_words ≡ 16384
unfolding lent_words
lent_size = length-replicate 16384 (pos 0)

module _ (input : List ℕ) (old new : List ℤ) (r : Result ClauseNumbers Refusal) (E : Promised office (call.clauses (sheet_of input) (sequence_of input) old) (from_clauses r) (integers new))
    (size : length old ≡ 16384) (before after : List ℕ) (next : ℕ) (room : 98352 ≤ length before) where
  asked_is : call_refusal office (call.clauses (sheet_of input) (sequence_of input) old) ≡ refusal input
  unfolding refusal describe questions
  asked_is =
      let s = sheet_of input in
      let q = sequence_of input in
      ap (λ room. first_refusal (input_questions office (with_sequence s q) ++ (question9 s q ∷ question10 (clauses_output s q) room ∷ []))) (size ∙ sym lent_size)

  prints_refused : (x : Refusal) → r ≡ Err x → (n : ℕ) → n ≡ number x → Wrote before 0 (refused_text n) after next → Prints input after next
  unfolding printed
  prints_refused x e n is W =
      let small = number_small x in
      let h = refused_says (sheet_of input) (sequence_of input) old new r E x e in
      let no : eqb (refusal input) 0 ≡ false = ap (λ k. eqb k 0) (sym asked_is) ∙ h.1 in
      let l = refused_short n (record { fits = omega arith }) in
      prints_text input (refused_text n) before after next W (omega arith) (ap refused_text (is ∙ (h.0 ∙ asked_is)) ∙ sym (rw no refl))

  prints_written : (n : ClauseNumbers) → r ≡ Ok n → Wrote before 0 (header_text n.variables n.clauses ++ words_text (take (n.words - 0) new)) after next
      → Prints input after next
  unfolding printed clauses_text
  prints_written n e W =
      let zero : eqb (refusal input) 0 ≡ true = eq-eqb (refusal input) 0 (sym asked_is ∙ passed (sheet_of input) (sequence_of input) old new r E n e) in
      let l = text_fits (sheet_of input) (sequence_of input) old new r E n e size in
      prints_text input (header_text n.variables n.clauses ++ words_text (take (n.words - 0) new)) before after next W (omega arith)
      (whole_text_lem (sheet_of input) (sequence_of input) old new r E n e size ∙ sym (rw zero refl))

-- The same where the input stands in the first n bytes of the buffer that the text is written to.
module _ (buffer : List ℕ) (n : ℕ) (old new : List ℤ) (r : Result ClauseNumbers Refusal)
    (E : Promised office (call.clauses (sheet_of (take (n - 0) buffer)) (sequence_of (take (n - 0) buffer)) old) (from_clauses r) (integers new))
    (size : length old ≡ 16384) (after : List ℕ) (next : ℕ) (room : 98352 ≤ length buffer) where
  prints_front : Prints (take (n - 0) buffer) after next → Prints (take n buffer) after next
  prints_front h = subst (λ k. Prints (take k buffer) after next) (sub-zero n) h

  pub answer_refused : (x : Refusal) → r ≡ Err x → (k : ℕ) → k ≡ number x → Wrote buffer 0 (refused_text k) after next → Prints (take n buffer) after next
  answer_refused x e k is W = prints_front (prints_refused (take (n - 0) buffer) old new r E size buffer after next room x e k is W)

  pub answer_written : (numbers : ClauseNumbers) → r ≡ Ok numbers
      → Wrote buffer 0 (header_text numbers.variables numbers.clauses ++ words_text (take (numbers.words - 0) new)) after next
      → Prints (take n buffer) after next
  answer_written numbers e W = prints_front (prints_written (take (n - 0) buffer) old new r E size buffer after next room numbers e W)
