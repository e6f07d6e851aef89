-- What a store of a record or of an entry leaves. Only what stands here knows where their words are.
use mathlib.Core.List.{List}
use mathlib.Core.Path.{◌≡◌, refl, ◌∙◌}
use Prim.Native.Nat.{ℕ, ◌+◌, ◌*◌, ◌/◌, ◌%◌, ◌<◌}
use native.Mathlib.Omega.{arith}
use lib.ListN.{length, get_or, set, length-set}
use lib.Seq.{get_or-set_same, get_or-set_other}
use Rattle.lists.specs.Rows.{Stored}
use Rattle.tables.specs.declared.SheetRecord.{SheetRecord}
use Rattle.tables.specs.declared.ProgramEntry.{ProgramEntry}
use Rattle.tables.specs.inner.Rows.{row_at, entry_at}

-- Three stores in a row.
module _ (t : List ℕ) (at a b c : ℕ) where
  abbrev one : List ℕ
  one = set t at a

  abbrev two : List ℕ
  two = set one (at + 1) b

  abbrev three : List ℕ
  three = set two (at + 2) c

  three_other : (k : ℕ) → (k ≡ at → ⊥) → (k ≡ at + 1 → ⊥) → (k ≡ at + 2 → ⊥) → get_or three k 0 ≡ get_or t k 0
  three_other k p q r = get_or-set_other two (at + 2) k c 0 r ∙ (get_or-set_other one (at + 1) k b 0 q ∙ get_or-set_other t at k a 0 p)

  module _ (l : at + 2 < length t) where
    three_0 : get_or three at 0 ≡ a
    three_0 = get_or-set_other two (at + 2) at c 0 (λ e. omega arith) ∙ (get_or-set_other one (at + 1) at b 0 (λ e. omega arith) ∙ get_or-set_same t at a 0 (omega arith))

    three_1 : get_or three (at + 1) 0 ≡ b
    three_1 = get_or-set_other two (at + 2) (at + 1) c 0 (λ e. omega arith) ∙ get_or-set_same one (at + 1) b 0 (simp length-set (omega arith))

    three_2 : get_or three (at + 2) 0 ≡ c
    three_2 = get_or-set_same two (at + 2) c 0 (simp length-set (omega arith))

-- A record is stored.
pub record_stored : (t : List ℕ) (j : ℕ) (r : SheetRecord) → j < 128 → length t ≡ 384 → r.kind < 256 → r.head < 256
    → Stored row_at t j r (three t (3 * j) (r.kind * 256 + r.head) r.pos r.neg)
unfolding row_at
record_stored t j r l long k h =
    let w = r.kind * 256 + r.head in
    let room : 3 * j + 2 < length t = omega arith in
    let high : w / 256 % 256 ≡ r.kind = omega arith in
    let low : w % 256 ≡ r.head = omega arith in
    record {
      long = simp length-set;
      new = rw (three_0 t (3 * j) w r.pos r.neg room, three_1 t (3 * j) w r.pos r.neg room, three_2 t (3 * j) w r.pos r.neg room, high, low) refl;
      old = λ i ne.
          let o = three_other t (3 * j) w r.pos r.neg in
          rw (
            o (3 * i) (λ e. ne (omega arith)) (λ e. omega arith) (λ e. omega arith),
            o (3 * i + 1) (λ e. omega arith) (λ e. ne (omega arith)) (λ e. omega arith),
            o (3 * i + 2) (λ e. omega arith) (λ e. omega arith) (λ e. ne (omega arith)),
          ) refl;
    }

-- An entry is stored.
pub entry_stored : (p : List ℕ) (i : ℕ) (e : ProgramEntry) → i < 192 → length p ≡ 192 → e.source < 128 → e.added < 256 → e.head < 256
    → Stored entry_at p i e (set p i (e.added * 65536 + e.source * 256 + e.head))
unfolding entry_at
entry_stored p i e l long s a h =
    let w = e.added * 65536 + e.source * 256 + e.head in
    let low : w % 256 ≡ e.head = omega arith in
    let rest : w / 256 ≡ e.added * 256 + e.source = omega arith in
    let middle : w / 256 % 128 ≡ e.source = rw rest (omega arith) in
    let top : w / 65536 ≡ e.added = omega arith in
    let high : w / 65536 % 256 ≡ e.added = rw top (omega arith) in
    record {
      long = length-set p i w;
      new = rw (get_or-set_same p i w 0 (omega arith), low, middle, high) refl;
      old = λ k ne. rw (get_or-set_other p i k w 0 ne) refl;
    }
