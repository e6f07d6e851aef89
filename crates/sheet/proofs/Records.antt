-- Laws of questions 4 to 6 about records and of questions 1 to 6, one for each way out.
use mathlib.Core.Bool.{Bool, true, false, ◌&&◌, and-false}
use mathlib.Core.List.{List}
use mathlib.Core.Path.{◌≡◌, refl, sym, ◌∙◌, ap}
use Prim.Native.Nat.{ℕ, zero, suc, ◌+◌, ◌*◌, ◌-◌, ◌≤◌, ◌<◌}
use native.Mathlib.Numerals.{sub-one}
use native.Mathlib.Omega.{arith}
use borrow.Author.Tests.{eq-eqb, ne_eqb, lt-ltb, le-leb, lt-leb, ltb-true, leb-true}
use lib.Dec.{eqb, ltb, leb}
use lib.ListN.{length}
use Rattle.lists.proofs.Bools.{is_true, is_false, bool_ext, and_intro, and_left, and_right}
use Rattle.bits.specs.inner.Sets.{ByteAt}
use Rattle.sheet.specs.Questions.{ask, ◌then◌, first_refusal}
use Rattle.sheet.specs.Format.{part, size, positives, end, opens, measured, limited, complete, kind_fits, kind_passes, list_fits, lists_fit, record_questions, records_questions, form_questions, length_field, atoms_byte, records_byte, byte}
use Rattle.sheet.specs.inner.Walk.{Complete, record_refusal, records_refusal, form_refusal}
use Rattle.sheet.specs.declared.Limits.{Limits}
use Rattle.sheet.proofs.Questions.{ask_no, ask_yes, then_zero, then_refused, then_none, first_append}

complete_in : (s : List ℕ) (at : ℕ) → Complete s at → complete s at ≡ true
unfolding complete
complete_in s at C =
    and_intro (and_intro (and_intro (lt-ltb at (length s) C.starts) (le-leb 3 (size s at) C.three)) (le-leb (end s at) (length s) C.fits))
    (le-leb (positives s at) (size s at - 3) C.split)

pub complete_out : (s : List ℕ) (at : ℕ) → complete s at ≡ true → Complete s at
unfolding complete
complete_out s at e =
    let a = ltb at (length s) in
    let b = leb 3 (size s at) in
    let c = leb (end s at) (length s) in
    let d = leb (positives s at) (size s at - 3) in
    let abc = and_left (a && b && c) d e in
    let ab = and_left (a && b) c abc in
    record {
      starts = ltb-true at (length s) (and_left a b ab);
      three = leb-true 3 (size s at) (and_right a b ab);
      fits = leb-true (end s at) (length s) (and_right (a && b) c abc);
      split = leb-true (positives s at) (size s at - 3) (and_right (a && b && c) d e);
    }

incomplete : (s : List ℕ) (at : ℕ) → (Complete s at → ⊥) → false ≡ complete s at
incomplete s at h = sym (is_false (λ t. h (complete_out s at t)))

module _ (s : List ℕ) (at : ℕ) where
  pub complete_gone : length s ≤ at → false ≡ complete s at
  complete_gone l = incomplete s at (λ C. let a = C.starts in omega arith)

  pub complete_small : (k : ℕ) → ByteAt s at k → k < 3 → false ≡ complete s at
  complete_small k B l = incomplete s at (λ C. let a = C.three in let e = B.is in omega arith)

  pub complete_cut : (k : ℕ) → ByteAt s at k → length s - at ≤ k → false ≡ complete s at
  complete_cut k B l = incomplete s at (λ C. let f = C.fits in let e = B.is in omega arith)

  pub complete_split : (k p : ℕ) → ByteAt s at k → ByteAt s (at + 3) p → at < length s → 3 ≤ k → k < length s - at → leb p (k - 3) ≡ complete s at
  complete_split k p B D a t f =
      let e = B.is in
      let g = D.is in
      bool_ext (λ l. let d = leb-true p (k - 3) l in complete_in s at (record { starts = a; three = omega arith; fits = omega arith; split = omega arith }))
      (λ c. let d = (complete_out s at c).split in le-leb p (k - 3) (omega arith))

  -- The two lists of a record, and its kind, as they are read.
  pub lists_pos : (n p : ℕ) (b : Bool) → ByteAt s (at + 3) p → b ≡ list_fits n (part (at + 4) (at + 4 + p) s) → b ≡ false → false ≡ lists_fit n s at
  unfolding lists_fit
  lists_pos n p b D e f = sym (rw (rw D.is at (sym e ∙ f)) refl)

  pub lists_neg : (n k p : ℕ) (b c : Bool) → ByteAt s at k → ByteAt s (at + 3) p → b ≡ list_fits n (part (at + 4) (at + 4 + p) s) → b ≡ true
      → c ≡ list_fits n (part (at + 4 + p) (at + 1 + k) s) → c ≡ lists_fit n s at
  unfolding lists_fit
  lists_neg n k p b c B D e t f = sym (rw (rw D.is at (sym e ∙ t)) (sym (rw (D.is, B.is) at f)))

  pub kind_read : (n t h : ℕ) (b : Bool) → ByteAt s (at + 1) t → ByteAt s (at + 2) h → b ≡ kind_fits n t h → b ≡ kind_passes n s at
  unfolding kind_passes
  kind_read n t h b T H e = rw (T.is, H.is) at e

  -- The record: what the tests' flags say, in their order.
  pub known_complete : (b : Bool) → b ≡ complete s at → b ≡ true → Complete s at
  known_complete b e t = complete_out s at (sym e ∙ t)

  pub record_incomplete : (n : ℕ) (b : Bool) → b ≡ complete s at → b ≡ false → 4 ≡ record_refusal n s at
  unfolding record_questions first_refusal
  record_incomplete n b e f = sym (ask_no (sym e ∙ f) 4 _ (λ e. omega arith))

  pub record_kind : (n : ℕ) (b c : Bool) → b ≡ complete s at → b ≡ true → c ≡ kind_passes n s at → c ≡ false → 5 ≡ record_refusal n s at
  unfolding record_questions first_refusal
  record_kind n b c e t g f = sym (ask_yes (sym e ∙ t) 4 _ ∙ ask_no (sym g ∙ f) 5 _ (λ e. omega arith))

-- The loop over the records.
pub record Checking (n : ℕ) (s : List ℕ) (m left at : ℕ) : Type 0 where
  pub same : records_refusal left n s at ≡ records_refusal m n s 5
  pub inside : at ≤ length s

record_known : (n : ℕ) (s : List ℕ) (at : ℕ) → 0 ≡ record_refusal n s at → Complete s at
unfolding record_questions first_refusal
record_known n s at e = complete_out s at (is_true (λ f. let q = e ∙ ask_no f 4 _ (λ e. omega arith) in omega arith))

module _ (n : ℕ) (s : List ℕ) (m : ℕ) where
  pub checking_start : 5 ≤ length s → Checking n s m m 5
  checking_start l = record { same = refl; inside = l }

  turned : (left at : ℕ) → 0 < left → records_refusal left n s at ≡ record_refusal n s at then records_refusal (left - 1) n s (end s at)
  unfolding records_questions
  turned zero at l = absurd (omega arith)
  turned (suc left) at l = rw (sub-one (suc left)) (first_append (record_questions n s at) (records_questions left n s (end s at)))

  pub checking_turn : (left at q e : ℕ) → Checking n s m left at → 0 < left → q ≡ record_refusal n s at → q ≡ 0 → e ≡ end s at → Checking n s m (left - 1) e
  checking_turn left at q e C l k z g =
      let f = (record_known n s at (sym z ∙ k)).fits in
      record {
        same = ap (records_refusal (left - 1) n s) g ∙ (sym (turned left at l ∙ then_zero (record_refusal n s at) _ (sym k ∙ z)) ∙ C.same);
        inside = omega arith;
      }

  pub checking_refused : (left at q : ℕ) → Checking n s m left at → 0 < left → q ≡ record_refusal n s at → (q ≡ 0 → ⊥) → q ≡ records_refusal m n s 5
  checking_refused left at q C l k z =
      k ∙ (sym (then_refused (record_refusal n s at) _ (λ e. z (k ∙ e))) ∙ (sym (turned left at l) ∙ C.same))

  ended : (left at : ℕ) → left ≤ 0 → records_refusal left n s at ≡ ask (eqb at (length s)) 4
  unfolding records_questions first_refusal
  ended zero at l = then_none (ask (eqb at (length s)) 4)
  ended (suc left) at l = absurd (omega arith)

  pub checking_end : (left at : ℕ) → Checking n s m left at → left ≤ 0 → at ≡ length s → 0 ≡ records_refusal m n s 5
  unfolding ask
  checking_end left at C l e = sym (rw (eq-eqb at (length s) e) refl) ∙ (sym (ended left at l) ∙ C.same)

  pub checking_left : (left at : ℕ) → Checking n s m left at → left ≤ 0 → (at ≡ length s → ⊥) → 4 ≡ records_refusal m n s 5
  unfolding ask
  checking_left left at C l e = sym (rw (ne_eqb at (length s) e) refl) ∙ (sym (ended left at l) ∙ C.same)

-- The whole form.
module _ (L : Limits) (s : List ℕ) where
  opens_in : (b : ℕ) → 5 ≤ length s → ByteAt s 0 b → b ≡ 1 → opens s ≡ true
  unfolding opens
  opens_in b l B e = and_intro (le-leb 5 (length s) l) (eq-eqb (byte s 0) 1 (sym B.is ∙ e))

  measured_in : (b d : ℕ) → ByteAt s 1 b → ByteAt s 2 d → b * 256 + d ≡ length s → measured s ≡ true
  unfolding measured
  measured_in b d B D e = eq-eqb (length_field s) (length s) (rw (B.is, D.is) at e)

  pub form_short : length s < 5 → 1 ≡ form_refusal L s
  unfolding form_questions first_refusal opens
  form_short l = sym (ask_no (rw (lt-leb 5 (length s) l) refl) 1 _ (λ e. omega arith))

  pub form_version : (b : ℕ) → ByteAt s 0 b → (b ≡ 1 → ⊥) → 1 ≡ form_refusal L s
  unfolding form_questions first_refusal opens
  form_version b B n =
      sym (ask_no (rw (ne_eqb (byte s 0) 1 (λ e. n (B.is ∙ e))) (and-false (leb 5 (length s)))) 1 _ (λ e. omega arith))

  module _ (v : ℕ) (l : 5 ≤ length s) (V₀ : ByteAt s 0 v) (one : v ≡ 1) (b d : ℕ) (B : ByteAt s 1 b) (D : ByteAt s 2 d) where
    pub form_length : (b * 256 + d ≡ length s → ⊥) → 2 ≡ form_refusal L s
    unfolding form_questions first_refusal measured
    form_length n =
        sym (ask_yes (opens_in v l V₀ one) 1 _ ∙ ask_no (ne_eqb (length_field s) (length s) (λ e. n (rw (B.is, D.is) e))) 2 _ (λ e. omega arith))

    module _ (same : b * 256 + d ≡ length s) (n m : ℕ) (N : ByteAt s 3 n) (M : ByteAt s 4 m) where
      third : form_refusal L s ≡ ask (limited L s) 3 then records_refusal (records_byte s) (atoms_byte s) s 5
      unfolding form_questions first_refusal
      third = ask_yes (opens_in v l V₀ one) 1 _ ∙ ask_yes (measured_in b d B D same) 2 _

      pub form_atoms : L.atoms < n → 3 ≡ form_refusal L s
      unfolding limited
      form_atoms k = sym (third ∙ ask_no (rw (lt-leb (atoms_byte s) L.atoms (rw N.is at k)) refl) 3 _ (λ e. omega arith))

      pub form_records : L.records < m → 3 ≡ form_refusal L s
      unfolding limited
      form_records k =
          sym (third ∙ ask_no (rw (lt-leb (records_byte s) L.records (rw M.is at k)) (and-false (leb (atoms_byte s) L.atoms))) 3 _ (λ e. omega arith))

      pub form_rest : n ≤ L.atoms → m ≤ L.records → form_refusal L s ≡ records_refusal m n s 5
      unfolding limited
      form_rest k j =
          third
          ∙ (ask_yes (and_intro (le-leb (atoms_byte s) L.atoms (rw N.is at k)) (le-leb (records_byte s) L.records (rw M.is at j))) 3 _
          ∙ rw (M.is, N.is) refl)
