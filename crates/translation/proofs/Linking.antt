-- Laws of the loop that gathers the edges of the records' rules.
use mathlib.Core.Bool.{Bool, ◌&&◌, ◌||◌, or-false, or_comm, or_assoc}
use mathlib.Core.List.{List, [], ◌∷◌, ◌++◌}
use mathlib.Core.Path.{◌≡◌, refl, sym, ◌∙◌, ap}
use Prim.Native.Nat.{ℕ, ◌+◌, ◌^◌, ◌≤◌, ◌<◌}
use native.Mathlib.Numerals.{add-one}
use native.Mathlib.Omega.{arith}
use borrow.Author.Tests.{eqb-true, eqb-false, eq-eqb, ne_eqb}
use lib.Dec.{eqb}
use lib.ListN.{length, get_or, set, length-set, replicate, length-replicate, get_or-replicate}
use lib.Seq.{get_or-set_same, get_or-set_other}
use Rattle.lists.specs.Lists.{any, member}
use Rattle.lists.proofs.Bools.{by_bool}
use Rattle.lists.proofs.Members.{any_append}
use Rattle.asp.specs.Program.{Rule}
use Rattle.unfolding.specs.Graph.{edge}
use Rattle.bits.specs.inner.Sets.{has, Either}
use Rattle.bits.specs.inner.Visited.{listed}
use Rattle.bits.proofs.Digits.{zero_has}
use Rattle.bits.proofs.Visiting.{listed_member}
use Rattle.tables.specs.inner.Rows.{row_at}
use Rattle.tables.specs.declared.SheetRecord.{SheetRecord}
use Rattle.sheet.specs.Sheet.{record_rules, next_fresh, unless, rules_of, program_of}
use Rattle.reader.specs.inner.Tabled.{record_of}
use Rattle.translation.specs.inner.Records.{Records, records_from, records_in, Expandable, FreshFor}
use Rattle.translation.specs.inner.Linked.{leads, Linked, RowsLinked, RecordLinked, EdgesIn}
use Rattle.translation.proofs.Records.{records_left, records_over, records_all, Numbering, numbering_start, numbering_turn, fresh_for}

-- One row.
pub linked : (rows : List ℕ) (h x r : ℕ) → length rows ≡ 64 → h < 64 → x < 2 ^ 64 → Either (get_or rows h 0) x r → Linked h x rows (set rows h r)
linked rows h x r n l w E =
    record {
      long = length-set rows h r ∙ n;
      bits = λ a b. by_bool (eqb h a)
          (λ q. let e = eqb-true h a q in
          ap (λ y. has y b) (ap (λ i. get_or (set rows h r) i 0) (sym e) ∙ get_or-set_same rows h r 0 (omega arith))
          ∙ (E.members b ∙ (or_comm (has (get_or rows h 0) b) (has x b) ∙ rw (q, listed_member x b w, ← e) refl)))
          (λ q. ap (λ y. has y b) (get_or-set_other rows h a r 0 (λ k. eqb-false h a q (sym k))) ∙ sym (rw q refl));
    }

-- The rows of several rules.
leads_append : (x y : List Rule) (a b : ℕ) → leads (x ++ y) a b ≡ (leads x a b || leads y a b)
unfolding leads
leads_append x y a b = any_append (λ r. eqb r.head a && member b r.body.pos) x y

rows_none : (rows : List ℕ) → length rows ≡ 64 → RowsLinked [] rows rows
unfolding leads any
rows_none rows n = record { long = n; bits = λ a b. refl }

rows_more : (r : Rule) (x : ℕ) (rules : List Rule) (old mid new : List ℕ) → r.body.pos ≡ listed x → Linked r.head x old mid → RowsLinked rules mid new → RowsLinked (r ∷ rules) old new
unfolding leads any
rows_more r x rules old mid new e L R =
    record {
      long = R.long;
      bits = λ a b.
          let here = eqb r.head a && member b r.body.pos in
          R.bits a b
          ∙ (ap (λ (z : Bool). leads rules a b || z) (L.bits a b ∙ ap (λ l. (eqb r.head a && member b l) || has (get_or old a 0) b) (sym e))
          ∙ (sym (or_assoc (leads rules a b) here (has (get_or old a 0) b)) ∙ ap (λ (z : Bool). z || has (get_or old a 0) b) (or_comm (leads rules a b) here)));
    }

-- The rules of a record, one law for each kind.
module _ (r : SheetRecord) (fresh : ℕ) (rows : List ℕ) where
  pub record_rule : (h : ℕ) → h ≡ r.head → r.kind ≡ 0 → (new : List ℕ) → Linked h r.pos rows new → RecordLinked r fresh rows new fresh
  unfolding record_rules next_fresh record_of
  record_rule h H z new L =
      let zero_kind = eq-eqb r.kind 0 z in
      let not_two = ne_eqb r.kind 2 (λ e. omega arith) in
      record {
        rows = rw zero_kind (rows_more (record { head = r.head; body = record { pos = listed r.pos; neg = listed r.neg } }) r.pos [] rows new new refl (rw H at L) (rows_none new L.long));
        next = sym (rw not_two refl);
      }

  pub record_choice : (h : ℕ) → h ≡ r.head → r.kind ≡ 2 → (mid new : List ℕ) → Linked h r.pos rows mid → Linked fresh r.pos mid new → RecordLinked r fresh rows new (fresh + 1)
  unfolding record_rules next_fresh record_of unless
  record_choice h H z mid new L M =
      let not_zero = ne_eqb r.kind 0 (λ e. omega arith) in
      let two = eq-eqb r.kind 2 z in
      record {
        rows = rw (not_zero, two) (rows_more _ r.pos _ rows mid new refl (rw H at L) (rows_more _ r.pos [] mid new new refl M (rows_none new M.long)));
        next = add-one fresh ∙ sym (rw two refl);
      }

  pub record_other : (r.kind ≡ 0 → ⊥) → (r.kind ≡ 2 → ⊥) → length rows ≡ 64 → RecordLinked r fresh rows rows fresh
  unfolding record_rules next_fresh record_of
  record_other z t n =
      let not_zero = ne_eqb r.kind 0 z in
      let not_two = ne_eqb r.kind 2 t in
      record { rows = rw (not_zero, not_two) (rows_none rows n); next = sym (rw not_two refl) }

-- The edges of the records that are left, and those in the table, are all.
pub record Linking (n : ℕ) (t : Records) (j : ℕ) (rows : List ℕ) (fresh : ℕ) : Type 0 where
  pub long : length rows ≡ 64
  pub number : Numbering n t j fresh
  pub bits : (a b : ℕ) → a < 64 → (leads (rules_of fresh (records_from t j)) a b || has (get_or rows a 0) b) ≡ leads (rules_of n (records_in t)) a b

module _ (n : ℕ) (t : Records) where
  pub linking_start : (rows : List ℕ) → rows ≡ replicate 64 0 → Linking n t 0 rows n
  linking_start rows e =
      rw e
      (record {
        long = length-replicate {A = ℕ} 64 0;
        number = numbering_start n t;
        bits = λ a b l. rw (get_or-replicate {A = ℕ} 64 a 0 0 l, zero_has b) (or-false (leads (rules_of n (records_from t 0)) a b) ∙ ap (λ rs. leads (rules_of n rs) a b) (records_all t));
      })

  module _ (j : ℕ) (rows : List ℕ) (fresh : ℕ) (L : Linking n t j rows fresh) where
    module _ (l : j < t.count) (r : SheetRecord) (R : r ≡ row_at t.words j) where
      pub linking_fresh : Expandable n t → FreshFor r fresh
      linking_fresh E = fresh_for n t E j fresh L.number l r R

      pub linking_turn : (new : List ℕ) (next : ℕ) → RecordLinked r fresh rows new next → Linking n t (j + 1) new next
      unfolding rules_of
      linking_turn new next M =
          let is = ap record_of R in
          let e : next ≡ next_fresh fresh (record_of (row_at t.words j)) = M.next ∙ ap (next_fresh fresh) is in
          record {
            long = M.rows.long;
            number = numbering_turn n t j fresh next L.number l e;
            bits = λ a b s.
                let rest = rules_of next (records_from t (j + 1)) in
                let here = record_rules fresh (record_of r) in
                let old = has (get_or rows a 0) b in
                let split : rules_of fresh (records_from t j) ≡ here ++ rest = ap (rules_of fresh) (records_left t j l) ∙ rw (is, e) refl in
                ap (λ (z : Bool). leads rest a b || z) (M.rows.bits a b)
                ∙ (sym (or_assoc (leads rest a b) (leads here a b) old)
                ∙ (ap (λ (z : Bool). z || old) (or_comm (leads rest a b) (leads here a b) ∙ (sym (leads_append here rest a b) ∙ ap (λ rs. leads rs a b) (sym split))) ∙ L.bits a b s));
          }

    pub linking_end : Expandable n t → t.count ≤ j → EdgesIn n t rows
    unfolding leads any rules_of edge program_of
    linking_end E l =
        let low = E.low in
        record { long = L.long; bits = λ a s b. rw (records_over t j l) at (L.bits a b (omega arith)) }
