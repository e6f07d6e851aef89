-- The loop that reads the records into a table.
use mathlib.Core.List.{List, ◌∷◌, ◌++◌, append-nil, append_assoc}
use mathlib.Core.Path.{◌≡◌, refl, sym, ◌∙◌, ap, ap₂, subst}
use Prim.Native.Nat.{ℕ, zero, suc, ◌+◌, ◌-◌, ◌≤◌, ◌<◌}
use native.Mathlib.Omega.{arith}
use lib.ListN.{length}
use Rattle.std.proofs.Common.{Ok, Err}
use Rattle.lists.specs.Lists.{range}
use Rattle.lists.specs.Rows.{Stored}
use Rattle.lists.proofs.Rows.{rows_more, all_more}
use Rattle.refusals.specs.declared.Refusal.{Refusal}
use Rattle.refusals.specs.declared.Refusal.TheVariants as refusal
use Rattle.refusals.specs.Numbers.{number}
use Rattle.refusals.proofs.Asking.{number_positive, asked_value, asked_refusal}
use Rattle.tables.specs.inner.Rows.{row_at}
use Rattle.sheet.specs.Format.{end}
use Rattle.sheet.specs.Sheet.{record_at, records_from}
use Rattle.sheet.proofs.Records.{Checking, checking_start, checking_turn, checking_refused, checking_end, checking_left}
use Rattle.reader.specs.declared.Entry.{Entry}
use Rattle.reader.specs.inner.Tabled.{record_of, records_at, ExactRow, ExactSets, EntryRead, Tabled, RecordsRead}

-- The first j records are stored.
pub record Tabling (n m : ℕ) (s : List ℕ) (j at : ℕ) (t : List ℕ) : Type 0 where
  pub checking : Checking n s m (m - j) at
  pub few : j ≤ m
  pub list : records_at t 0 j ++ records_from (m - j) s at ≡ records_from m s 5
  pub long : length t ≡ 384
  pub exact : ExactSets j t

module _ (n m : ℕ) (s : List ℕ) where
  pub tabling_start : (t : List ℕ) → 5 ≤ length s → length t ≡ 384 → Tabling n m s 0 5 t
  unfolding records_at range
  tabling_start t l long = let e : m - 0 ≡ m = omega arith in record { checking = rw e (checking_start n s m l); few = omega arith; list = rw e refl; long = long; exact = λ i l. absurd (omega arith) }

  first : (left at : ℕ) → 0 < left → records_from left s at ≡ record_at s at ∷ records_from (left - 1) s (end s at)
  unfolding records_from
  first zero at l = absurd (omega arith)
  first (suc left) at l = let e : suc left - 1 ≡ left = omega arith in rw e refl

  module _ (j at : ℕ) (t : List ℕ) (T : Tabling n m s j at t) where
    module _ (lt : j < m) where
      pub tabling_turn : (r : Entry) → EntryRead n s at (Ok r) → (u : List ℕ) → Stored row_at t j r.row u → Tabling n m s (j + 1) r.end u
      unfolding records_at
      tabling_turn r E u S =
          let R = E.value in
          let less : m - j - 1 ≡ m - (j + 1) = omega arith in
          record {
            checking = subst (λ i. Checking n s m i r.end) less (checking_turn n s m (m - j) at 0 r.end T.checking (omega arith) E.says refl R.end);
            few = omega arith;
            list = ap (λ l. l ++ records_from (m - (j + 1)) s r.end) (rows_more row_at t j r.row u S record_of)
                ∙ (append_assoc (records_at t 0 j) _ _
                ∙ (ap (λ l. records_at t 0 j ++ l) (ap₂ (λ x l. x ∷ l) R.is (ap₂ (λ i e. records_from i s e) (sym less) R.end) ∙ sym (first (m - j) at (omega arith)))
                ∙ T.list));
            long = S.long ∙ T.long;
            exact = all_more row_at t j r.row u S ExactRow (j + 1) (λ i l ne. T.exact i (omega arith)) R.exact;
          }

      pub tabling_refused : (e : Refusal) → EntryRead n s at (Err e) → RecordsRead n m s t (Err e)
      tabling_refused e E =
          record {
            asked = asked_refusal _ (λ _. Tabled m s t) e (checking_refused n s m (m - j) at (number e) T.checking (omega arith) E.says (λ z. let p = number_positive e in omega arith));
            long = T.long;
          }

    module _ (over : m ≤ j) where
      pub tabling_left : (at ≡ length s → ⊥) → RecordsRead n m s t (Err refusal.Record)
      tabling_left ne =
          record { asked = asked_refusal _ (λ _. Tabled m s t) refusal.Record (checking_left n s m (m - j) at T.checking (omega arith) ne); long = T.long }

      pub tabling_end : at ≡ length s → RecordsRead n m s t (Ok tt)
      unfolding records_from
      tabling_end e =
          let f = T.few in
          let none : m - j ≡ 0 = omega arith in
          let all : j ≡ m = omega arith in
          record {
            asked = asked_value _ (λ _. Tabled m s t) tt (checking_end n s m (m - j) at T.checking (omega arith) e)
                record {
                  stored = ap (records_at t 0) (sym all) ∙ (sym (append-nil (records_at t 0 j)) ∙ (rw none at T.list));
                  exact = subst (λ i. ExactSets i t) all T.exact;
                };
            long = T.long;
          }
