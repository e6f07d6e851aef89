-- Two services of one format answer the same, but for 15 and 16.
use mathlib.Core.Bool.{Bool, true, false, ◌&&◌, cond}
use mathlib.Core.List.{List, [], ◌∷◌}
use mathlib.Core.Path.{◌≡◌, refl, sym, ◌∙◌, ap, subst}
use Prim.Native.Nat.{ℕ, ◌+◌, ◌≤◌}
use native.Mathlib.Omega.{arith}
use borrow.Author.Tests.{eqb-true, eqb-false, le-leb, leb-true}
use lib.Dec.{eqb, leb}
use lib.ListN.{length, length-drop}
use Rattle.lists.specs.Lists.{range}
use Rattle.lists.proofs.Bools.{by_bool, and_intro, and_left, and_right}
use Rattle.lists.proofs.Members.{all_mono}
use Rattle.unfolding.specs.Default.{members}
use Rattle.asp.specs.Program.{Program}
use Rattle.std.proofs.Common.{Result, Ok, Err}
use Rattle.refusals.specs.declared.Refusal.{Refusal}
use Rattle.refusals.specs.Numbers.{number}
use Rattle.refusals.proofs.Asking.{number_is}
use Rattle.sheet.specs.Questions.{ask, ◌then◌, first_refusal, AllYes}
use Rattle.sheet.specs.Format.{atoms_byte, limited, form_questions}
use Rattle.sheet.specs.inner.Walk.{form_refusal}
use Rattle.sheet.specs.Sequence.{entries, sequence_fits}
use Rattle.sheet.specs.Sheet.{records, choices, program_of, program}
use Rattle.sheet.specs.declared.Limits.{Limits}
use Rattle.sheet.proofs.Questions.{ask_passed, then_passed, then_zero, then_refused, yes_first}
use Rattle.sheet.proofs.Sequences.{fits_out}
use Rattle.components.specs.Limit.{components_fit}
use Rattle.operations.specs.Outcome.{Outcome, refused, answered, outcome, from_place}
use Rattle.operations.specs.Outputs.{slice, body_start, body_end, body_positives}
use Rattle.operations.specs.Questions.{question13, question7, question15, question8, question16}
use Rattle.operations.specs.Calls.{Call, Input, sheet, with_sequence, Buffer, describe, service_questions, outcome_of, left, Service, Promised}
use Rattle.operations.specs.Calls as call
use Rattle.operations.specs.Bodies.{body_refusal, shifted, body_place}
use Rattle.operations.specs.declared.BodyPlace.{BodyPlace}
use Rattle.operations.specs.inner.Refusals.{sheet_refusal, input_refusal, call_refusal}
use Rattle.operations.proofs.Questions.{bytes_parted, graph_parted, sheet_parted, sequence_parted, sheet_alone, call_parted}
use Rattle.operations.proofs.Promises.{promised_number}
use Rattle.guarantees.specs.Demands.{Demand1}
use Rattle.guarantees.specs.Services.{OneFormat, Narrower, WholeFormat, OneService, SameBodies, NeverTooLarge}
use Rattle.guarantees.proofs.Numbers.{Other, ask_holds, FifteenHolds, ServiceHolds, call_holds}
use Rattle.guarantees.proofs.Calls.{refused_so, kept}

-- A number other than 15 and 16.
abbrev Neither : ℕ → Type 0
Neither k = Other 15 k × Other 16 k

low_neither : (k : ℕ) → k ≤ 14 → Neither k
low_neither k l = (λ e. omega arith, λ e. omega arith)

zero_neither : (k : ℕ) → k ≡ 0 → Neither k
zero_neither k z = low_neither k (omega arith)

-- The first no of a call is neither where that of its 15 and 16 is.
call_neither : (L : Limits) (c : Call) → ServiceHolds Neither L (describe c).input → Neither (call_refusal L c)
call_neither L c = call_holds Neither L low_neither c

-- So it is where the call passes the service's own questions.
within_neither : (L : Limits) (input : Input) → AllYes (service_questions L input) → ServiceHolds Neither L input
unfolding ServiceHolds service_questions first_refusal
within_neither L (sheet s) y = let p = then_passed (question15 L (program s)) 0 (yes_first (service_questions L (sheet s)) y) in λ _ _. zero_neither _ p.0
within_neither L (with_sequence s q) y =
    let p = then_passed (question15 L (program s)) _ (yes_first (service_questions L (with_sequence s q)) y) in
    let r = then_passed (question16 L q) 0 p.1 in
    (λ _ _. zero_neither _ p.0, λ _. zero_neither _ r.0)

-- Components of at most k atoms have at most m, where k is not above m.
components_fit_more : (P : Program) (k m : ℕ) → k ≤ m → components_fit k P ≡ true → components_fit m P ≡ true
unfolding components_fit
components_fit_more P k m l t =
    all_mono (λ c. leb (length (members P c)) k) (λ c. leb (length (members P c)) m) (range 0 P.atoms) (λ c h.
    let few = leb-true (length (members P c)) k h in le-leb (length (members P c)) m (omega arith)) t

-- And where the service takes all that the format allows.
module _ (L : Limits) (W : WholeFormat L) where
  whole_sheet : (s : List ℕ) → FifteenHolds Neither L s
  unfolding ask program program_of
  whole_sheet s a b =
      let n = leb-true (atoms_byte s + choices (records s)) L.atoms (ask_passed (leb (atoms_byte s + choices (records s)) L.atoms) 13 (λ e. omega arith) a) in
      let few = W.atoms in
      let small = components_fit_more (program s) L.component L.taken.component W.component (ask_passed (components_fit L.component (program s)) 7 (λ e. omega arith) b) in
      zero_neither (question15 L (program s)) (rw (le-leb (program s).atoms L.taken.atoms (omega arith), small) refl)

  whole_sequence : (s q : List ℕ) → question8 L s q ≡ 0 → Neither (question16 L q)
  unfolding ask
  whole_sequence s q e =
      let Q = fits_out L (program s).atoms q (ask_passed (sequence_fits L (program s).atoms q) 8 (λ e. omega arith) e) in
      let few = Q.few in
      let size = Q.size in
      let most = W.entries in
      let rest = length-drop 3 q in
      zero_neither (question16 L q) (rw (le-leb (length (entries q)) L.taken.entries (omega arith)) refl)

  whole_neither : (input : Input) → ServiceHolds Neither L input
  unfolding ServiceHolds
  whole_neither (sheet s) = whole_sheet s
  whole_neither (with_sequence s q) = (whole_sheet s, whole_sequence s q)

-- Two numbers agree: the first is 15 or 16, or they are equal.
abbrev Agree : ℕ → ℕ → Type 0
Agree a b = Neither a → a ≡ b

then_agree : (a b c d : ℕ) → Agree a b → Agree c d → Agree (a then c) (b then d)
then_agree a b c d A C n =
    by_bool (eqb a 0)
    (λ t.
    let z = eqb-true a 0 t in
    let same : b ≡ 0 = sym (A (zero_neither a z)) ∙ z in
    then_zero a c z ∙ (C (subst Neither (then_zero a c z) n) ∙ sym (then_zero b d same)))
    (λ f.
    let ne = eqb-false a 0 f in
    let here = then_refused a c ne in
    let same = A (subst Neither here n) in
    here ∙ (same ∙ sym (then_refused b d (λ z. ne (same ∙ z)))))

ask_agree : (b d : Bool) (k : ℕ) → (b ≡ true → d ≡ true) → (Neither k → ⊥) → Agree (ask b k) (ask d k)
unfolding ask
ask_agree true d k h bad n = rw (h refl) refl
ask_agree false d k h bad n = absurd (bad n)

module _ (L M : Limits) (F : OneFormat L M) (N : Narrower L M) where
  form_same : (s : List ℕ) → form_refusal L s ≡ form_refusal M s
  unfolding form_questions limited
  form_same s = rw (F.atoms, F.records) refl

  fifteen_agree : (P : Program) → Agree (question15 L P) (question15 M P)
  fifteen_agree P =
      ask_agree (leb P.atoms L.taken.atoms && components_fit L.taken.component P) _ 15
      (λ t.
      let a = leb-true P.atoms L.taken.atoms (and_left (leb P.atoms L.taken.atoms) (components_fit L.taken.component P) t) in
      let b = and_right (leb P.atoms L.taken.atoms) (components_fit L.taken.component P) t in
      let l = N.atoms in
      and_intro (le-leb P.atoms M.taken.atoms (omega arith)) (components_fit_more P L.taken.component M.taken.component N.component b))
      (λ n. n.0 refl)

  sixteen_agree : (q : List ℕ) → Agree (question16 L q) (question16 M q)
  sixteen_agree q =
      ask_agree (leb (length (entries q)) L.taken.entries) _ 16
      (λ t. let a = leb-true (length (entries q)) L.taken.entries t in let l = N.entries in le-leb (length (entries q)) M.taken.entries (omega arith))
      (λ n. n.1 refl)

  same_agree : (a b : ℕ) → a ≡ b → Agree a b
  same_agree a b e _ = e

  sheet_agree : (s : List ℕ) → Agree (sheet_refusal L s) (sheet_refusal M s)
  sheet_agree s =
      let P = program s in
      rw (sheet_parted L s, sheet_parted M s, bytes_parted L s, bytes_parted M s, graph_parted L P, graph_parted M P)
      (then_agree _ _ _ _
      (then_agree _ _ _ _ (same_agree _ _ (form_same s)) (same_agree (question13 L s) (question13 M s) (rw F.atoms refl)))
      (then_agree _ _ _ _ (same_agree (question7 L P) (question7 M P) (rw F.component refl)) (fifteen_agree P)))

  input_agree : (input : Input) → Agree (input_refusal L input) (input_refusal M input)
  unfolding sequence_fits
  input_agree (sheet s) = rw (sheet_alone L s, sheet_alone M s) (sheet_agree s)
  input_agree (with_sequence s q) =
      rw (sequence_parted L s q, sequence_parted M s q)
      (then_agree _ _ _ _ (sheet_agree s) (then_agree _ _ _ _ (same_agree (question8 L s q) (question8 M s q) (rw F.entries refl)) (sixteen_agree q)))

  call_agree : (c : Call) → Agree (call_refusal L c) (call_refusal M c)
  call_agree c = rw (call_parted L c, call_parted M c) (then_agree _ _ _ _ (input_agree (describe c).input) (λ _. refl))

-- Where a call is not refused by 15 or by 16, the first no is another question's, if there is one.
kept_neither : (L : Limits) (c : Call) (o : Outcome) (b : Buffer) → Promised L c o b → (o ≡ refused 15 → ⊥) → (o ≡ refused 16 → ⊥) → Neither (call_refusal L c)
kept_neither L c o b P x y = (λ e. x (refused_so L c o b P 15 e (λ z. omega arith)), λ e. y (refused_so L c o b P 16 e (λ z. omega arith)))

module _ (L M : Limits) (F : OneFormat L M) (N : Narrower L M) (S T : Service) (D : Demand1 L S) (E : Demand1 M T) where
  agreed : (c : Call) (o p : Outcome) (b d : Buffer) → S c o b → T c p d → Neither (call_refusal L c) → (p ≡ o) × (d ≡ b)
  unfolding outcome_of
  agreed c o p b d A B n =
      let P = kept L S D c o b A in
      let Q = kept M T E c p d B in
      let same : outcome_of M c ≡ outcome_of L c = ap (λ k. outcome k (describe c).values) (sym (call_agree L M F N c n)) in
      (Q.says ∙ (same ∙ sym P.says), Q.leaves ∙ (ap (λ o. left o (describe c)) same ∙ sym P.leaves))

pub one_service : OneService
one_service L M F N S T D E =
    record {
      within = λ c o p b d A B y. agreed L M F N S T D E c o p b d A B (call_neither L c (within_neither L (describe c).input y));
      otherwise = λ c o p b d A B x y. agreed L M F N S T D E c o p b d A B (kept_neither L c o b (kept L S D c o b A) x y);
    }

pub never_too_large : (L : Limits) → WholeFormat L → (S : Service) → Demand1 L S → NeverTooLarge S
never_too_large L W S D c k b A =
    let e = (promised_number L c b k (kept L S D c (refused k) b A)).0 in
    let n = call_neither L c (whole_neither L W (describe c).input) in
    (λ z. n.0 (sym e ∙ z), λ z. n.1 (sym e ∙ z))

-- Showing a body does not ask 16.
pub body_agree : (L M : Limits) → OneFormat L M → Narrower L M → (i : ℕ) (s : List ℕ) → (body_refusal L i s ≡ 15 → ⊥) → body_refusal L i s ≡ body_refusal M i s
unfolding describe ServiceHolds
body_agree L M F N i s ne =
    call_agree L M F N (call.body i s)
    (ne, call_holds (Other 16) L (λ k l e. omega arith) (call.body i s) (λ _ _. ask_holds (Other 16) _ 15 (λ e. omega arith) (λ e. omega arith)))

-- No two results of finding a body stand for one outcome.
place_is : (r t : Result BodyPlace Refusal) → from_place r ≡ from_place t → r ≡ t
place_is (Ok p) (Ok o) e =
    let vs : answered (p.start ∷ p.end ∷ p.positives ∷ []) ≡ answered (o.start ∷ o.end ∷ o.positives ∷ []) = e in
    let a : p.start ≡ o.start = cc in
    let b : p.end ≡ o.end = cc in
    let c : p.positives ≡ o.positives = cc in
    ap (λ x. Ok (record { start = x; end = p.end; positives = p.positives })) a
    ∙ (ap (λ x. Ok (record { start = o.start; end = x; positives = p.positives })) b
    ∙ ap (λ x. Ok (record { start = o.start; end = o.end; positives = x })) c)
place_is (Err e) (Err f) same = let k : refused (number e) ≡ refused (number f) = same in ap Err (number_is e f cc)
place_is (Ok p) (Err f) same = let k : answered (p.start ∷ p.end ∷ p.positives ∷ []) ≡ refused (number f) = same in let z : ◌≡◌ {A = ℕ} 0 1 = cc in absurd (omega arith)
place_is (Err e) (Ok p) same = let k : refused (number e) ≡ answered (p.start ∷ p.end ∷ p.positives ∷ []) = same in let z : ◌≡◌ {A = ℕ} 0 1 = cc in absurd (omega arith)

pub same_bodies : (L M : Limits) → OneFormat L M → Narrower L M → SameBodies L M
unfolding body_place
same_bodies L M F N =
    record {
      places = λ i s r t P Q ne.
          place_is t r (Q.is ∙ (ap (λ k. outcome k (body_start i s ∷ body_end i s ∷ body_positives i s ∷ [])) (sym (body_agree L M F N i s ne)) ∙ sym P.is));
      slices = λ i s r t base at place P Q ne.
          let same = sym (body_agree L M F N i s ne) in
          (Q.contents ∙ (ap (λ k. cond (eqb k 0) (slice i s) []) same ∙ sym P.contents), Q.lies ∙ (ap (λ k. shifted (cond (eqb k 0) (body_start i s) 0) base) same ∙ sym P.lies));
    }
