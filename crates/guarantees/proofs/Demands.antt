-- Demands 2 and 3, what a solver reads, and what missing chains are, of every service that meets demand 1.
use mathlib.Core.Bool.{Bool, false, not}
use mathlib.Core.List.{List, [], ◌∷◌}
use mathlib.Core.Logic.{◌↔◌}
use mathlib.Core.Path.{◌≡◌, refl, sym, ◌∙◌, ap, ap₂, subst}
use Prim.Native.Nat.{ℕ}
use native.Mathlib.Omega.{arith}
use lib.IntN.{ℤ}
use lib.ListN.{length, take, drop}
use lib.Seq.{take-append_seam}
use Rattle.lists.proofs.Bools.{true_false, is_false, is_true, not_intro, not_elim}
use Rattle.asp.specs.Count.{stable_models, verdict}
use Rattle.asp.proofs.Claims.{stable_is_answer_set, stable_are_listed, count_is_answer_sets}
use Rattle.unfolding.specs.Chain.{passes}
use Rattle.unfolding.specs.Missing.{ShortestMissing}
use Rattle.unfolding.specs.Unfolded.{NoPositiveLoop}
use Rattle.unfolding.specs.Decoded.{read_unfolded}
use Rattle.unfolding.specs.Clauses.{read_words}
use Rattle.unfolding.specs.Faithful.{clauses_of, variables_of}
use Rattle.unfolding.specs.Claims as claims
use Rattle.unfolding.proofs.Chains.{passes_iff}
use Rattle.unfolding.proofs.Claims.{missing_is_shortest, literals_are_numbered, words_are_clauses, words_are_unfolded, words_have_no_loop}
use Rattle.sheet.specs.Questions.{ask, ◌then◌, first_refusal}
use Rattle.sheet.specs.Sequence.{entries}
use Rattle.sheet.specs.Format.{atoms_byte}
use Rattle.sheet.specs.Sheet.{records, program}
use Rattle.sheet.specs.declared.Limits.{Limits}
use Rattle.sheet.proofs.Questions.{ask_yes, ask_no, ask_passed, first_yes, yes_first}
use Rattle.sheet.proofs.Walk.{records_sound}
use Rattle.choice.specs.Written.{WrittenFaithful}
use Rattle.choice.proofs.Number.{cuts, cuts_listed, count_written}
use Rattle.lparse_format.specs.Decoded.{read_lparse}
use Rattle.lparse_format.specs.Meaning.{SameModels}
use Rattle.lparse_format.proofs.Claims.{lparse_is_read, export_is_faithful}
use Rattle.operations.specs.Outcome.{Outcome, refused, answered}
use Rattle.operations.specs.Verdicts.{code}
use Rattle.operations.specs.Outputs.{lparse_output, missing_output, unfolded_output, clauses_output, clause_numbers}
use Rattle.operations.specs.Questions.{question9, question10, question14}
use Rattle.operations.specs.Calls.{Call, sheet, with_sequence, Buffer, naturals, integers, over, describe, input_questions, questions, Service, Promised}
use Rattle.operations.specs.Calls as call
use Rattle.operations.specs.inner.Refusals.{sheet_refusal, input_refusal, call_refusal}
use Rattle.operations.proofs.Questions.{sheet_alone, call_parted, sheet_passed}
use Rattle.operations.proofs.Promises.{further_asked, promised_number, promised_passed, promised_values, promised_written}
use Rattle.guarantees.specs.Demands.{Demand1, AnswerSetsCounted, UnfoldedWords, ClauseWords, Demand2}
use Rattle.guarantees.specs.Demands.{Accepted, AsFarAsChains, Numbered, NineIsChains, Demand3, SolverReads, TextForSolvers, MissingChains}
use Rattle.guarantees.proofs.Calls.{passed_answered, refused_so, kept, demand_1}
use Rattle.guarantees.proofs.Numbers.{Other, ask_holds, then_holds, then_behind, ServiceHolds, input_holds}
use Rattle.guarantees.proofs.Accepting.{program_accepted, call_passed, input_passed, test_passes, both_accepted, next_passed, test_passed, test_accepted, test_faithful}

-- A call that is given a sheet alone and is not refused.
sheet_accepted : (L : Limits) (s : List ℕ) (c : Call) → (describe c).input ≡ sheet s → call_refusal L c ≡ 0 → sheet_refusal L s ≡ 0
sheet_accepted L s c given z = sym (sheet_alone L s) ∙ (ap (input_refusal L) (sym given) ∙ (call_passed L c z).0)

-- Counting.
counted_exact : (L : Limits) (s counted : List ℕ) (b : Buffer) → Promised L (call.count s) (answered counted) b → AnswerSetsCounted (atoms_byte s) (program s) counted
unfolding describe program
counted_exact L s counted b P =
    let passed = sheet_accepted L s (call.count s) refl (promised_passed L _ b counted P) in
    let wf = program_accepted L s passed in
    let listed = stable_are_listed (program s) wf in
    let same = stable_is_answer_set (program s) wf in
    let sound = records_sound L s (sheet_passed L s passed).form in
    let values : counted ≡ (describe (call.count s)).values = cc (promised_values L _ b counted P) in
    record {
      answer_sets = record {
        list = stable_models (program s);
        listed = record {
          distinct = listed.distinct;
          sound = λ X m. (same X).0 (listed.sound X m);
          complete = λ X A. listed.complete X ((same X).1 A);
        };
        exact = λ l E. values ∙ ap (λ k. k ∷ code (verdict k) ∷ []) (sym (count_is_answer_sets (program s) wf l E));
      };
      projections = record {
        list = cuts (atoms_byte s) (records s) sound;
        listed = cuts_listed (atoms_byte s) (records s) sound;
        exact = λ l E. values ∙ ap (λ k. k ∷ code (verdict k) ∷ []) (sym (count_written (atoms_byte s) (records s) sound l E));
      };
    }

-- The output is the beginning of the buffer.
over_front : {A : Type 0} (output old new : List A) (l : ℕ) → l ≡ length output → new ≡ over output old → take l new ≡ output
over_front output old new l e n = ap₂ take e n ∙ take-append_seam output (drop (length output) old)

-- Writing the unfolded program.
unfolded_derived : (L : Limits) (s q old new : List ℕ) (l : ℕ) → Promised L (call.unfolded s q old) (answered (l ∷ [])) (naturals new) → UnfoldedWords s q (take l new)
unfolding describe unfolded_output
unfolded_derived L s q old new l P =
    let size : l ≡ length (unfolded_output s q) = cc (promised_values L _ _ _ P) in
    let front = over_front (unfolded_output s q) old new l size (cc (promised_written L _ _ _ P)) in
    let passed = next_passed L s q _ (question9 s q) (call.unfolded s q old) refl refl (promised_passed L _ _ _ P) in
    let A = both_accepted L s q passed.0 passed.1 in
    record {
      derived = ap read_unfolded front ∙ words_are_unfolded (program s) (entries q);
      no_loop = subst (λ ws. NoPositiveLoop (read_unfolded ws)) (sym front) (words_have_no_loop (program s) A.program (entries q) A.entries);
    }

-- Writing clauses.
module _ (L : Limits) (s q : List ℕ) (old new : List ℤ) (l v c : ℕ) (P : Promised L (call.clauses s q old) (answered (l ∷ v ∷ c ∷ [])) (integers new)) where
  clauses_sizes : answered (l ∷ v ∷ c ∷ []) ≡ answered (length (clauses_output s q) ∷ variables_of (program s) (entries q) ∷ length (clauses_of (program s) (entries q)) ∷ [])
  unfolding describe clause_numbers
  clauses_sizes = promised_values L _ _ _ P

  clauses_hold : new ≡ over (clauses_output s q) old
  unfolding describe
  clauses_hold = cc (promised_written L _ _ _ P)

  clauses_passed : (input_refusal L (with_sequence s q) ≡ 0) × (question9 s q ≡ 0)
  unfolding describe
  clauses_passed = next_passed L s q _ (question9 s q) (call.clauses s q old) refl refl (promised_passed L _ _ _ P)

  clauses_accepted : claims.Accepted (program s) (entries q)
  clauses_accepted = both_accepted L s q clauses_passed.0 clauses_passed.1

  clauses_tested : Accepted L s q
  clauses_tested =
      let passed = input_passed L s q clauses_passed.0 in
      first_yes (questions L (call.test s q)) (test_passes L s q passed.0 passed.1 passed.2 clauses_passed.1)

  clauses_back : read_words (take l new) ≡ clauses_of (program s) (entries q)
  unfolding clauses_output
  clauses_back =
      ap read_words (over_front (clauses_output s q) old new l (cc clauses_sizes) clauses_hold) ∙ words_are_clauses (program s) (entries q) clauses_accepted

  clauses_derived : ClauseWords s q (take l new) v c
  clauses_derived =
      let number : c ≡ length (clauses_of (program s) (entries q)) = cc clauses_sizes in
      record { derived = clauses_back; variables = cc clauses_sizes; clauses = number ∙ ap length (sym clauses_back) }

  clauses_numbered : Numbered (read_words (take l new)) v
  clauses_numbered =
      let number : variables_of (program s) (entries q) ≡ v = cc clauses_sizes in
      subst (Numbered (read_words (take l new))) number
      (subst (λ cs. Numbered cs (variables_of (program s) (entries q))) (sym clauses_back) (literals_are_numbered (program s) (entries q) clauses_accepted))

-- The lparse text of a sheet that is not refused.
pub solver_reads : (L : Limits) (s : List ℕ) → sheet_refusal L s ≡ 0 → SolverReads s (read_lparse (lparse_output s))
unfolding lparse_output program
solver_reads L s z =
    let back = lparse_is_read (atoms_byte s) (records s) in
    record {
      exported = back;
      models = subst (SameModels (atoms_byte s) (program s)) (sym back) (export_is_faithful (atoms_byte s) (records s) (records_sound L s (sheet_passed L s z).form));
    }

-- Writing it.
text_read : (L : Limits) (s old new : List ℕ) (l : ℕ) → Promised L (call.lparse s old) (answered (l ∷ [])) (naturals new) → SolverReads s (read_lparse (take l new))
unfolding describe
text_read L s old new l P =
    let front = over_front (lparse_output s) old new l (cc (promised_values L _ _ _ P)) (cc (promised_written L _ _ _ P)) in
    subst (λ t. SolverReads s (read_lparse t)) (sym front) (solver_reads L s (sheet_accepted L s (call.lparse s old) refl (promised_passed L _ _ _ P)))

-- What testing accepts.
module _ (L : Limits) (s q : List ℕ) (y : Accepted L s q) where
  pub accepted_passes : call_refusal L (call.test s q) ≡ 0
  accepted_passes = yes_first (questions L (call.test s q)) y

  pub accepted_both : claims.Accepted (program s) (entries q)
  accepted_both = test_accepted L s q accepted_passes

  pub written_faithful : WrittenFaithful (atoms_byte s) (program s) (entries q)
  written_faithful = test_faithful L s q accepted_passes

-- The first question behind those about the sheet and the sequence, in a call that comes so far and asks `rest` behind it.
module _ (L : Limits) (s q rest : List ℕ) (c : Call) (yes-answer : Bool) (k : ℕ) (given : (describe c).input ≡ with_sequence s q)
    (asked : (describe c).further ≡ ask yes-answer k ∷ rest) (far : input_refusal L (with_sequence s q) ≡ 0) where
  behind : call_refusal L c ≡ ask yes-answer k then first_refusal rest
  unfolding first_refusal
  behind = further_asked L c (ap (input_refusal L) given ∙ far) ∙ ap first_refusal asked

  -- Its number is answered just when it gets a no, where `rest` does not answer it too.
  refused_just : (k ≡ 0 → ⊥) → Other k (first_refusal rest) → (o : Outcome) (b : Buffer) → Promised L c o b → (o ≡ refused k) ↔ (yes-answer ≡ false)
  refused_just some other o b P = (
    λ e. is_false (λ t. other (sym (ask_yes t k (first_refusal rest)) ∙ (sym behind ∙ sym (promised_number L c b k (subst (λ o. Promised L c o b) e P)).0))),
    λ f. refused_so L c o b P k (behind ∙ ask_no f k (first_refusal rest) some) some,
  )

nine_is_chains : (L : Limits) (s q rest : List ℕ) (c : Call) → (describe c).input ≡ with_sequence s q → (describe c).further ≡ question9 s q ∷ rest
    → Other 9 (first_refusal rest) → AsFarAsChains L s q → (S : Service) → Demand1 L S → NineIsChains S c s q
nine_is_chains L s q rest c given asked other yeses S D o b A =
    let far = yes_first (input_questions L (with_sequence s q)) yeses in
    let same = passes_iff (program s) (program_accepted L s (input_passed L s q far).0) (entries q) in
    let nine = refused_just L s q rest c (passes (program s) (entries q)) 9 given asked far (λ e. omega arith) other o b (kept L S D c o b A) in
    (λ ne. same.0 (is_true (λ f. ne (nine.1 f))), λ found e. true_false (same.1 found) (nine.0 e))

-- Question 10 has another number.
room_other : {A : Type 0} (output : List A) (room k : ℕ) → Other k 0 → Other k 10 → Other k (first_refusal (question10 output room ∷ []))
unfolding first_refusal
room_other output room k some ne = then_holds (Other k) _ 0 (ask_holds (Other k) _ 10 some ne) (λ _. some)

none_other : Other 9 (first_refusal [])
unfolding first_refusal
none_other e = omega arith

-- The missing chain.
missing_shown : (L : Limits) (s q old new : List ℕ) (l : ℕ) → Promised L (call.missing s q old) (answered (l ∷ [])) (naturals new)
    → ShortestMissing (program s) (entries q) (take l new)
unfolding describe missing_output
missing_shown L s q old new l P =
    let front = over_front (missing_output s q) old new l (cc (promised_values L _ _ _ P)) (cc (promised_written L _ _ _ P)) in
    let passed = next_passed L s q _ (question14 s q) (call.missing s q old) refl refl (promised_passed L _ _ _ P) in
    let lacks = ask_passed (not (passes (program s) (entries q))) 14 (λ e. omega arith) passed.1 in
    let wf = program_accepted L s (input_passed L s q passed.0).0 in
    subst (ShortestMissing (program s) (entries q)) (sym front) (missing_is_shortest (program s) wf (entries q) (not_elim lacks))

-- Where 14 is answered, and where testing passes, a call comes as far as the chain question; and 14 is then answered just when every chain is found.
module _ (L : Limits) (s q old : List ℕ) (o : Outcome) (b : Buffer) (P : Promised L (call.missing s q old) o b) where
  fourteen_far : o ≡ refused 14 → input_refusal L (with_sequence s q) ≡ 0
  unfolding describe ServiceHolds
  fourteen_far e =
      let other =
      input_holds (Other 14) L (λ k l e. omega arith) (with_sequence s q)
      (λ _ _. ask_holds (Other 14) _ 15 (λ e. omega arith) (λ e. omega arith), λ _. ask_holds (Other 14) _ 16 (λ e. omega arith) (λ e. omega arith)) in
      let number = (promised_number L (call.missing s q old) b 14 (subst (λ o. Promised L (call.missing s q old) o b) e P)).0 in
      (then_behind _ _ 14 other (sym (call_parted L (call.missing s q old)) ∙ sym number)).0

  fourteen_just : input_refusal L (with_sequence s q) ≡ 0 → (o ≡ refused 14) ↔ (not (passes (program s) (entries q)) ≡ false)
  unfolding describe
  fourteen_just far =
      refused_just L s q _ (call.missing s q old) (not (passes (program s) (entries q))) 14 refl refl far (λ e. omega arith)
      (room_other (missing_output s q) (length old) 14 (λ e. omega arith) (λ e. omega arith)) o b P

  module _ (t : Outcome) (c : Buffer) (T : Promised L (call.test s q) t c) where
    fourteen_passed : o ≡ refused 14 → t ≡ answered []
    unfolding describe first_refusal
    fourteen_passed e =
        let far = fourteen_far e in
        let found = is_true (λ f. true_false (not_intro f) ((fourteen_just far).0 e)) in
        passed_answered L (call.test s q) t c T (behind L s q [] (call.test s q) (passes (program s) (entries q)) 9 refl refl far ∙ ask_yes found 9 0)

    passed_fourteen : t ≡ answered [] → o ≡ refused 14
    passed_fourteen e =
        let passed = test_passed L s q (promised_passed L (call.test s q) c [] (subst (λ t. Promised L (call.test s q) t c) e T)) in
        let found = ask_passed (passes (program s) (entries q)) 9 (λ e. omega arith) passed.1 in
        (fourteen_just passed.0).1 (ap not found)

module _ (L : Limits) (S : Service) (D : Demand1 L S) where
  -- Where testing accepts, whatever is answered to it is that it passed.
  pub test_answered : (s q : List ℕ) (o : Outcome) (b : Buffer) → S (call.test s q) o b → Accepted L s q → o ≡ answered []
  unfolding describe
  test_answered s q o b A y = passed_answered L (call.test s q) o b (kept L S D _ o b A) (accepted_passes L s q y)

  pub demand_2_of : Demand2 L S
  demand_2_of =
      record {
        counted = λ s counted b A. counted_exact L s counted b (kept L S D _ _ _ A);
        unfolds = λ s q old new l A. unfolded_derived L s q old new l (kept L S D _ _ _ A);
        derives = λ s q old new l v c A. clauses_derived L s q old new l v c (kept L S D _ _ _ A);
      }

  pub demand_3_of : Demand3 L S
  unfolding describe
  demand_3_of =
      record {
        faithful = λ s q y. written_faithful L s q y;
        numbered = λ s q y. literals_are_numbered (program s) (entries q) (accepted_both L s q y);
        accepted = λ s q old new l v c A. clauses_tested L s q old new l v c (kept L S D _ _ _ A);
        written = λ s q old new l v c A. clauses_numbered L s q old new l v c (kept L S D _ _ _ A);
        tested = λ s q far. nine_is_chains L s q [] (call.test s q) refl refl none_other far S D;
        unfolds = λ s q old far. nine_is_chains L s q _ (call.unfolded s q old) refl refl (room_other (unfolded_output s q) (length old) 9 (λ e. omega arith) (λ e. omega arith)) far S D;
        derives = λ s q old far. nine_is_chains L s q _ (call.clauses s q old) refl refl (room_other (clauses_output s q) (length old) 9 (λ e. omega arith) (λ e. omega arith)) far S D;
      }

  pub solvers_of : TextForSolvers S
  solvers_of s old new l A = text_read L s old new l (kept L S D _ _ _ A)

  pub missing_chains_of : MissingChains S
  missing_chains_of =
      record {
        shortest = λ s q old new l A. missing_shown L s q old new l (kept L S D _ _ _ A);
        fourteen = λ s q old o t b c A T.
            let P = kept L S D _ o b A in
            let R = kept L S D _ t c T in
            (fourteen_passed L s q old o b P t c R, passed_fourteen L s q old o b P t c R);
      }

-- The demands of the operations.
pub demand_2 : (L : Limits) → Demand2 L (Promised L)
demand_2 L = demand_2_of L (Promised L) (demand_1 L)

pub demand_3 : (L : Limits) → Demand3 L (Promised L)
demand_3 L = demand_3_of L (Promised L) (demand_1 L)

pub text_for_solvers : (L : Limits) → TextForSolvers (Promised L)
text_for_solvers L = solvers_of L (Promised L) (demand_1 L)

pub missing_chains_lem : (L : Limits) → MissingChains (Promised L)
missing_chains_lem L = missing_chains_of L (Promised L) (demand_1 L)
