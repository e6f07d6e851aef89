-- Laws of showing a body: its record is gone on to, then its place is found.
use mathlib.Core.List.{List}
use mathlib.Core.Path.{◌≡◌, refl, sym, ◌∙◌, ap, subst}
use Prim.Native.Nat.{ℕ, zero, suc, ◌+◌, ◌-◌, ◌≤◌, ◌<◌}
use native.Mathlib.Numerals.{sub-one}
use native.Mathlib.Omega.{arith}
use borrow.Author.Tests.{lt-ltb, le-ltb}
use lib.Dec.{ltb}
use Rattle.bits.specs.inner.Sets.{ByteAt}
use Rattle.std.proofs.Common.{Ok, Err}
use Rattle.refusals.specs.declared.Refusal.{Refusal}
use Rattle.refusals.specs.declared.Refusal.TheVariants as refusal
use Rattle.refusals.proofs.Asking.{number_positive}
use Rattle.sheet.specs.Questions.{ask, ◌then◌, first_refusal}
use Rattle.sheet.specs.Format.{records_byte, end, positives}
use Rattle.sheet.specs.inner.Walk.{Walk, Stepped}
use Rattle.sheet.specs.declared.Limits.{Limits}
use Rattle.sheet.proofs.Questions.{then_refused, then_zero, then_none}
use Rattle.sheet.proofs.Walk.{formed, walk_known}
use Rattle.operations.specs.Outputs.{offset, place}
use Rattle.operations.specs.Questions.{question_b}
use Rattle.operations.specs.Calls.{describe, input_questions}
use Rattle.operations.specs.Calls as call
use Rattle.operations.specs.Bodies.{body_refusal, FindPromise}
use Rattle.operations.specs.inner.Refusals.{sheet_refusal}
use Rattle.operations.proofs.Questions.{call_parted}
use Rattle.sheet_check.specs.inner.Checked.{SheetChecked}
use Rattle.sheet_check.specs.declared.SheetNumbers.{SheetNumbers}
use Rattle.operations.proofs.Bodies.{find_place, find_nowhere}
use Rattle.body_operations.specs.inner.Places.{Placed}

pub walk_accepted : (L : Limits) (s es cs ss : List ℕ) (r : SheetNumbers) → SheetChecked L s es cs ss (Ok r) → Walk s r.written r.records 5
walk_accepted L s es cs ss r A = let K = A.value.accepted.bytes in rw (K.written, K.number) (formed L s K.form).walk

-- Going on to a record, behind the first i of them.
pub record Going (s : List ℕ) (n m number at i : ℕ) : Type 0 where
  pub walk : Walk s n (m - i) at
  pub same : offset (number - i) s at ≡ place number s
  pub more : number < m
  pub upto : i ≤ number

module _ (s : List ℕ) (n m number : ℕ) where
  pub going_start : Walk s n m 5 → number < m → Going s n m number 5 0
  unfolding place
  going_start W l =
      let a : m - 0 ≡ m = omega arith in
      let b : number - 0 ≡ number = omega arith in
      record { walk = rw a W; same = rw b refl; more = l; upto = omega arith }

  further : (k at : ℕ) → 0 < k → offset k s at ≡ offset (k - 1) s (end s at)
  unfolding offset
  further zero at l = absurd (omega arith)
  further (suc k) at l = rw (sub-one (suc k)) refl

  module _ (at i : ℕ) (G : Going s n m number at i) where
    pub going_left : i ≤ m
    going_left = let a = G.more in let b = G.upto in omega arith

    pub going_turn : i < number → (r : ℕ) → Stepped s n (m - i) at r → Going s n m number r (i + 1)
    going_turn l r S =
        let k = G.more in
        let a : m - i - 1 ≡ m - (i + 1) = omega arith in
        let b : number - i - 1 ≡ number - (i + 1) = omega arith in
        record {
          walk = subst (λ j. Walk s n j r) a S.rest;
          same = ap (λ j. offset j s r) (sym b) ∙ (ap (offset (number - i - 1) s) S.is ∙ (sym (further (number - i) at (omega arith)) ∙ G.same));
          more = k;
          upto = omega arith;
        }

    pub going_walk : i < number → 0 < m - i
    going_walk l = let k = G.more in omega arith

    pub going_end : number ≤ i → Placed s n number at
    unfolding offset
    going_end l =
        let k = G.more in
        let u = G.upto in
        let z : number - i ≡ 0 = omega arith in
        record { is = ap (λ j. offset j s at) (sym z) ∙ G.same; known = walk_known s n (m - i) at G.walk (omega arith) }

-- The body.
module _ (L : Limits) (i : ℕ) (s : List ℕ) where
  body_asked : body_refusal L i s ≡ sheet_refusal L s then question_b i s
  unfolding describe input_questions first_refusal
  body_asked = call_parted L (call.body i s) ∙ ap (λ r. sheet_refusal L s then r) (then_none (question_b i s))

  pub body_refused : (es cs ss : List ℕ) (e : Refusal) → SheetChecked L s es cs ss (Err e) → FindPromise L i s (Err e)
  body_refused es cs ss e A =
      let p = number_positive e in
      let f = A.says in
      find_nowhere L i s e (f ∙ sym (body_asked ∙ then_refused (sheet_refusal L s) _ (λ z. omega arith)))

  module _ (es cs ss : List ℕ) (r : SheetNumbers) (A : SheetChecked L s es cs ss (Ok r)) where
    twelfth : body_refusal L i s ≡ ask (ltb i (records_byte s)) 12
    twelfth = body_asked ∙ then_zero (sheet_refusal L s) _ (sym A.says)

    pub body_past : r.records ≤ i → FindPromise L i s (Err refusal.Number)
    unfolding ask
    body_past l =
        let k = A.value.accepted.bytes.number in
        find_nowhere L i s refusal.Number (sym (twelfth ∙ rw (le-ltb i (records_byte s) (omega arith)) refl))

    pub body_shown : (n at e p : ℕ) → i < r.records → Placed s n i at → e ≡ end s at → ByteAt s (at + 3) p
        → FindPromise L i s (Ok (record { start = at + 4; end = e; positives = p }))
    unfolding ask
    body_shown n at e p l K last B =
        let k = A.value.accepted.bytes.number in
        let w = K.known.whole in
        let three = w.three in
        let fits = w.fits in
        let passed : body_refusal L i s ≡ 0 = twelfth ∙ rw (lt-ltb i (records_byte s) (omega arith)) refl in
        record {
          is = find_place L i s (record { start = at + 4; end = e; positives = p }) passed (ap (λ k. k + 4) K.is) (last ∙ ap (end s) K.is) (B.is ∙ ap (positives s) K.is);
          order = omega arith;
          inside = omega arith;
        }
