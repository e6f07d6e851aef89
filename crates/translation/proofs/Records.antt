-- Laws of going through records: the one at an index and those behind it, their fresh atoms, their number.
use mathlib.Core.Bool.{true, cond}
use mathlib.Core.List.{List, [], ◌∷◌, Memᴰ}
use mathlib.Core.Path.{◌≡◌, refl, sym, ◌∙◌, ap}
use Prim.Native.Nat.{ℕ, suc, ◌+◌, ◌-◌, ◌≤◌, ◌<◌}
use native.Mathlib.Nat.{zero-add}
use native.Mathlib.Omega.{arith}
use borrow.Author.Tests.{eq-eqb, ltb-true}
use lib.Dec.{eqb}
use lib.ListN.{length}
use Rattle.lists.specs.Lists.{filter}
use Rattle.lists.proofs.Bools.{by_bool}
use Rattle.lists.proofs.Rows.{rows_left, rows_over, rows_length, row_member}
use Rattle.tables.specs.inner.Rows.{row_at}
use Rattle.tables.specs.declared.SheetRecord.{SheetRecord}
use Rattle.sheet.specs.Format.{kind_fits}
use Rattle.sheet.specs.Sheet.{Record, next_fresh, choices}
use Rattle.sheet.proofs.Lists.{kind_rule, kind_choice}
use Rattle.reader.specs.inner.Tabled.{record_of, records_at}
use Rattle.translation.specs.inner.Records.{Records, held, records_from, records_in, ChoicesIn, Expandable, FreshFor}

-- The records from an index on.
module _ (t : Records) where
  pub records_left : (j : ℕ) → j < t.count → records_from t j ≡ record_of (row_at t.words j) ∷ records_from t (j + 1)
  unfolding records_at
  records_left = rows_left row_at record_of t.words t.count

  pub records_over : (j : ℕ) → t.count ≤ j → records_from t j ≡ []
  unfolding records_at
  records_over = rows_over row_at record_of t.words t.count

  pub records_all : records_from t 0 ≡ records_in t
  records_all = let all : t.count - 0 ≡ t.count = omega arith in rw all refl

  pub length_records : length (records_in t) ≡ t.count
  unfolding records_at
  length_records = rows_length row_at record_of t.words t.count 0

  record_member : (j : ℕ) → j < t.count → Memᴰ (record_of (row_at t.words j)) (records_in t)
  unfolding records_at
  record_member = row_member row_at record_of t.words t.count

-- Each choice rule takes a fresh atom.
pub choices_next : (f : ℕ) (r : Record) (rs : List Record) → f + choices (r ∷ rs) ≡ next_fresh f r + choices rs
unfolding choices next_fresh filter
choices_next f r rs = by_bool (eqb r.kind 2) (λ t. rw t (omega arith)) (λ t. rw t refl)

-- The fresh atoms that are left, from one on, are all.
pub record Numbering (n : ℕ) (t : Records) (j fresh : ℕ) : Type 0 where
  pub same : fresh + choices (records_from t j) ≡ n + choices (records_in t)

module _ (n : ℕ) (t : Records) where
  pub numbering_start : Numbering n t 0 n
  numbering_start = record { same = ap (λ rs. n + choices rs) (records_all t) }

  pub numbering_turn : (j fresh next : ℕ) → Numbering n t j fresh → j < t.count → next ≡ next_fresh fresh (record_of (row_at t.words j)) → Numbering n t (j + 1) next
  numbering_turn j fresh next N l e =
      record { same = ap (λ f. f + choices (records_from t (j + 1))) e ∙ (sym (choices_next fresh (record_of (row_at t.words j)) (records_from t (j + 1))) ∙ (ap (λ rs. fresh + choices rs) (sym (records_left t j l)) ∙ N.same)) }

  pub numbering_end : (j fresh : ℕ) → Numbering n t j fresh → t.count ≤ j → fresh ≡ n + choices (records_in t)
  unfolding choices filter
  numbering_end j fresh N l = let e = ap choices (records_over t j l) in let s = N.same in omega arith

  -- The atoms that a record's rules are for are below 64.
  module _ (E : Expandable n t) (j fresh : ℕ) (N : Numbering n t j fresh) (l : j < t.count) (r : SheetRecord) (R : r ≡ row_at t.words j) where
    passed : kind_fits n r.kind r.head ≡ true
    unfolding record_of
    passed = rw R (E.sound (record_of (row_at t.words j)) (record_member t j l)).kinds

    kind_is : (r.kind ≡ 2) → next_fresh fresh (record_of (row_at t.words j)) ≡ suc fresh
    unfolding next_fresh record_of
    kind_is e = rw (eq-eqb (row_at t.words j).kind 2 (rw R at e)) refl

    pub fresh_for : FreshFor r fresh
    fresh_for =
        let few = E.low in
        let s = N.same in
        let c = ap (λ rs. fresh + choices rs) (records_left t j l) ∙ choices_next fresh (record_of (row_at t.words j)) (records_from t (j + 1)) in
        record {
          heads = λ e. let h = ltb-true r.head n (kind_rule n r.kind r.head e ∙ passed) in omega arith;
          choice = λ e. let h = ltb-true r.head n (kind_choice n r.kind r.head e ∙ passed) in let f = kind_is e in (omega arith, omega arith);
        }

-- Counting choice rules.
pub record Choosing (t : List ℕ) (m j number : ℕ) : Type 0 where
  pub same : Numbering 0 (held m t) j number
  pub few : number ≤ j
  pub within : j ≤ m

module _ (t : List ℕ) (m : ℕ) where
  pub choosing_start : Choosing t m 0 0
  choosing_start = record { same = numbering_start 0 (held m t); few = omega arith; within = omega arith }

  pub choosing_turn : (j number next : ℕ) (r : SheetRecord) → Choosing t m j number → j < m → r ≡ row_at t j → next ≡ cond (eqb r.kind 2) (suc number) number → Choosing t m (j + 1) next
  unfolding next_fresh record_of
  choosing_turn j number next r C l R e =
      let few = C.few in
      record {
        same = numbering_turn 0 (held m t) j number next C.same l (e ∙ ap (λ (x : SheetRecord). cond (eqb x.kind 2) (suc number) number) R);
        few = by_bool (eqb r.kind 2) (λ t. let z : next ≡ suc number = rw t at e in omega arith) (λ f. let z : next ≡ number = rw f at e in omega arith);
        within = omega arith;
      }

  pub choosing_small : (j number : ℕ) → m ≤ 128 → Choosing t m j number → j < m → number < 256
  choosing_small j number l C i = let f = C.few in omega arith

  pub choosing_end : (j number : ℕ) → Choosing t m j number → m ≤ j → ChoicesIn t m number
  choosing_end j number C l =
      let f = C.few in
      let w = C.within in
      record { is = numbering_end 0 (held m t) j number C.same l ∙ zero-add _; few = omega arith }
