-- Laws of putting the rules and the constraints of records behind entries.
use mathlib.Core.Bool.{Bool, true, false, cond}
use mathlib.Core.List.{List, [], ◌∷◌, ◌++◌, map, map-append, map-map, append-nil, append_assoc}
use mathlib.Core.Path.{◌≡◌, refl, sym, ◌∙◌, ap, ap₂}
use Prim.Native.Nat.{ℕ, suc, ◌+◌, ◌-◌, ◌^◌, ◌≤◌, ◌<◌}
use native.Mathlib.Nat.{zero-add}
use native.Mathlib.Numerals.{add-one}
use native.Mathlib.Omega.{arith}
use borrow.Author.Tests.{eq-eqb, eqb-true, ne_eqb}
use lib.Dec.{eqb}
use lib.ListN.{length, length-append, length-map, take, drop}
use lib.Seq.{take_at, drop_at}
use Rattle.lists.specs.Lists.{filter, range}
use Rattle.lists.proofs.Bools.{by_bool}
use Rattle.lists.proofs.Members.{range_append}
use Rattle.lists.proofs.Nodup.{length_range}
use Rattle.lists.specs.Rows.{Stored}
use Rattle.lists.proofs.Rows.{rows_more}
use Rattle.asp.specs.Program.{Rule}
use Rattle.bits.specs.inner.Sets.{has}
use Rattle.bits.specs.inner.Visited.{listed}
use Rattle.bits.proofs.Visiting.{listed_member}
use Rattle.tables.specs.inner.Rows.{row_at, entry_at}
use Rattle.tables.specs.declared.SheetRecord.{SheetRecord}
use Rattle.tables.specs.declared.ProgramEntry.{ProgramEntry}
use Rattle.sheet.specs.Sheet.{Record, rule_in, adding, unless, record_rules, next_fresh, rules_of, constraints_of, choices, program_of}
use Rattle.program.specs.inner.Held.{table_rule, table_of, added_atom, body_of, rule_of, rules_at, bodies_at, program_in}
use Rattle.reader.specs.inner.Tabled.{record_of}
use Rattle.translation.specs.inner.Records.{Records, records_from, records_in, Expandable, FreshFor}
use Rattle.translation.specs.inner.Translated.{Entries, entries, entries_in, Room, Appended, entry_rule, EntryAppended, AddedTo, constraint_of, constraints_from, Translated}
use Rattle.translation.proofs.Records.{records_left, records_over, records_all, length_records, Numbering, numbering_start, numbering_turn, numbering_end, fresh_for}

-- The atom that is added.
pub added_there : (neg a : ℕ) (b : Bool) → neg < 2 ^ 64 → b ≡ has neg a → b ≡ true → AddedTo neg a 0
unfolding added_atom adding
added_there neg a b w e t = record { is = rw (listed_member neg a w ∙ (sym e ∙ t)) (append-nil (listed neg)) }

pub added_last : (neg a : ℕ) (b : Bool) → neg < 2 ^ 64 → b ≡ has neg a → b ≡ false → AddedTo neg a (a + 1)
unfolding added_atom adding
added_last neg a b w e f = record { is = rw (listed_member neg a w ∙ (sym e ∙ f), add-one a) refl }

-- One store.
length_rules : (t p : List ℕ) (j k : ℕ) → length (rules_at t p j k) ≡ k
unfolding rules_at
length_rules t p j k = length-map (range j k) (λ i. rule_of (table_rule t p i)) ∙ length_range j k

length_entries : (t : List ℕ) (e : Entries) → length (entries_in t e) ≡ e.k
unfolding entries_in
length_entries t e = length_rules t e.list 0 e.k

pub appended_one : (k : ℕ) (p q : List ℕ) → Room 1 (entries k p) → (x : ProgramEntry) → Stored entry_at p k x q → EntryAppended (entries k p) x (entries (k + 1) q)
unfolding entries_in rules_at table_rule entry_rule
appended_one k p q R x S =
    let l = R.room in
    record {
      appended = λ y. record {
        long = record { long = S.long ∙ R.long; room = omega arith };
        is = λ t e. rows_more entry_at p k x q S (λ z. entry_rule z (row_at t z.source)) ∙ ap (λ z. rules_at t p 0 k ++ (entry_rule x z ∷ [])) (sym e);
        size = refl;
      };
    }

-- Stores behind stores.
appended_none : (source : ℕ) (q : SheetRecord) (more : ℕ) (e : Entries) → Room more e → Appended source q e [] e
appended_none source q more e R =
    let l = R.room in
    record {
      long = record { long = R.long; room = omega arith };
      is = λ t h. sym (append-nil (entries_in t e));
      size = omega arith;
    }

appended_both : (source : ℕ) (q : SheetRecord) (e m r : Entries) (x y : List Rule) → Appended source q e x m → Appended source q m y r → Appended source q e (x ++ y) r
appended_both source q e m r x y A B =
    let s = A.size in
    let t = B.size in
    let n = length-append x y in
    record { long = B.long; is = λ t h. B.is t h ∙ (ap (λ l. l ++ y) (A.is t h) ∙ append_assoc (entries_in t e) x y); size = omega arith }

room_more : (a b : ℕ) (e : Entries) → a ≤ b → Room b e → Room a e
room_more a b e l R = let r = R.room in record { long = R.long; room = omega arith }

-- The rule of a record as an entry.
plain_entry : (h p q : ℕ) → rule_of (record { head = h; pos = p; neg = q; added = 0 }) ≡ record { head = h; body = record { pos = listed p; neg = listed q } }
unfolding rule_of body_of added_atom
plain_entry h p q = ap (λ l. record { head = h; body = record { pos = listed p; neg = l } }) (append-nil (listed q))

unless_entry : (h p q a r : ℕ) → AddedTo q a r → rule_of (record { head = h; pos = p; neg = q; added = r }) ≡ unless h (record { pos = listed p; neg = listed q }) a
unfolding rule_of body_of unless
unless_entry h p q a r A = ap (λ l. record { head = h; body = record { pos = listed p; neg = l } }) A.is

module _ (r : SheetRecord) (source fresh : ℕ) (e : Entries) where
  module _ (R : Room (length (record_rules fresh (record_of r))) e) where
    module _ (z : r.kind ≡ 0) where
      one_rule : record_rules fresh (record_of r) ≡ entry_rule (record { head = r.head; source = source; added = 0 }) r ∷ []
      unfolding record_rules record_of entry_rule
      one_rule = rw (eq-eqb r.kind 0 z) (ap (λ (x : Rule). x ∷ []) (sym (plain_entry r.head r.pos r.neg)))

      pub rule_room : Room 1 e
      rule_room = let n = ap length one_rule in room_more 1 _ e (omega arith) R

      pub rule_stored : (m : Entries) → EntryAppended e (record { head = r.head; source = source; added = 0 }) m → Appended source r e (record_rules fresh (record_of r)) m
      rule_stored m A = rw one_rule (A.appended r)

    module _ (z : r.kind ≡ 2) where
      module _ (a b : ℕ) (A : AddedTo r.neg fresh a) where
        abbrev first_entry : List Rule
        first_entry = entry_rule (record { head = r.head; source = source; added = a }) r ∷ []

        two_rules : AddedTo r.neg r.head b → record_rules fresh (record_of r) ≡ first_entry ++ (entry_rule (record { head = fresh; source = source; added = b }) r ∷ [])
        unfolding record_rules record_of entry_rule
        two_rules B =
            rw (ne_eqb r.kind 0 (λ e. omega arith), eq-eqb r.kind 2 z)
            (ap₂ (λ (x y : Rule). x ∷ y ∷ []) (sym (unless_entry r.head r.pos r.neg fresh a A)) (sym (unless_entry fresh r.pos r.neg r.head b B)))

      two : length (record_rules fresh (record_of r)) ≡ 2
      unfolding record_rules record_of
      two = rw (ne_eqb r.kind 0 (λ e. omega arith), eq-eqb r.kind 2 z) refl

      pub choice_room : Room 1 e
      choice_room = room_more 1 _ e (omega (arith, two)) R

      pub choice_second : (a : ℕ) (m : Entries) → EntryAppended e (record { head = r.head; source = source; added = a }) m → Room 1 m
      choice_second a m A =
          let L = (A.appended r).long in
          let l = R.room in
          let s = (A.appended r).size in
          record { long = L.long; room = omega (arith, two) }

      pub choice_stored : (a b h : ℕ) → AddedTo r.neg fresh a → h ≡ r.head → AddedTo r.neg h b
          → (m n : Entries) → EntryAppended e (record { head = r.head; source = source; added = a }) m
          → EntryAppended m (record { head = fresh; source = source; added = b }) n → Appended source r e (record_rules fresh (record_of r)) n
      choice_stored a b h A H B m n M N =
          rw (two_rules a b A (rw H at B))
          (appended_both source r e m n (first_entry a b A) (entry_rule (record { head = fresh; source = source; added = b }) r ∷ []) (M.appended r) (N.appended r))

    pub none_stored : (r.kind ≡ 0 → ⊥) → (r.kind ≡ 2 → ⊥) → Appended source r e (record_rules fresh (record_of r)) e
    unfolding record_rules record_of
    none_stored z t =
        let A = appended_none source r _ e R in
        rw (ne_eqb r.kind 0 z, ne_eqb r.kind 2 t) A

  module _ (R : Room (length (constraint_of (record_of r))) e) where
    module _ (z : r.kind ≡ 1) where
      one_constraint : constraint_of (record_of r) ≡ entry_rule (record { head = r.head; source = source; added = 0 }) r ∷ []
      unfolding constraint_of record_of entry_rule
      one_constraint = rw (eq-eqb r.kind 1 z) (ap (λ (x : Rule). x ∷ []) (sym (plain_entry r.head r.pos r.neg)))

      pub constraint_room : Room 1 e
      constraint_room = let n = ap length one_constraint in room_more 1 _ e (omega arith) R

      pub constraint_stored : (m : Entries) → EntryAppended e (record { head = r.head; source = source; added = 0 }) m → Appended source r e (constraint_of (record_of r)) m
      constraint_stored m A = rw one_constraint (A.appended r)

    pub no_constraint : (r.kind ≡ 1 → ⊥) → Appended source r e (constraint_of (record_of r)) e
    unfolding constraint_of record_of
    no_constraint z = let A = appended_none source r _ e R in rw (ne_eqb r.kind 1 z) A

-- Rules and constraints together are no more than the records and the choice rules.
entries_few : (f : ℕ) (rs : List Record) → length (rules_of f rs) + length (constraints_from rs) ≤ length rs + choices rs
unfolding rules_of record_rules constraints_from choices filter
entries_few f [] = omega arith
entries_few f (r ∷ rs) =
    let n = entries_few (next_fresh f r) rs in
    let rest = rules_of (next_fresh f r) rs in
    by_bool (eqb r.kind 0)
    (λ z.
    let k = eqb-true r.kind 0 z in
    rw (z, ne_eqb r.kind 1 (λ e. omega arith), ne_eqb r.kind 2 (λ e. omega arith)) (omega arith))
    (λ z. by_bool (eqb r.kind 2)
    (λ t.
    let k = eqb-true r.kind 2 t in
    rw (z, t, ne_eqb r.kind 1 (λ e. omega arith)) (omega arith))
    (λ t. by_bool (eqb r.kind 1) (λ o. rw (z, t, o) (omega arith)) (λ o. rw (z, t, o) (omega arith))))

constraints_left : (r : Record) (rs : List Record) → constraints_from (r ∷ rs) ≡ constraint_of r ++ constraints_from rs
unfolding constraints_from constraint_of filter
constraints_left r rs = by_bool (eqb r.kind 1) (λ t. rw t refl) (λ f. rw f refl)

-- The first loop: the entries, with the rules of the records that are left behind them, are the rules of all.
pub record Ruling (n : ℕ) (t : Records) (j fresh : ℕ) (e : Entries) : Type 0 where
  pub number : Numbering n t j fresh
  pub long : Room 0 e
  pub list : entries_in t.words e ++ rules_of fresh (records_from t j) ≡ rules_of n (records_in t)

-- The second loop: the same of the constraints, behind the rules.
pub record Constraining (n : ℕ) (t : Records) (rules i : ℕ) (e : Entries) : Type 0 where
  pub size : rules ≡ length (rules_of n (records_in t))
  pub long : Room 0 e
  pub list : entries_in t.words e ++ constraints_from (records_from t i) ≡ rules_of n (records_in t) ++ constraints_from (records_in t)

-- Entries behind entries.
rules_split : (t p : List ℕ) (a b : ℕ) → rules_at t p 0 (a + b) ≡ rules_at t p 0 a ++ rules_at t p a b
unfolding rules_at
rules_split t p a b = ap (map f) (range_append 0 a b ∙ ap (λ i. range 0 a ++ range i b) (zero-add a)) ∙ map-append f (range 0 a) (range a b)
  where
    f : ℕ → Rule
    f i = rule_of (table_rule t p i)

module _ (n : ℕ) (t : Records) (E : Expandable n t) where
  all_few : length (rules_of n (records_in t)) + length (constraints_from (records_in t)) ≤ 192
  all_few = let a = entries_few n (records_in t) in let m = length_records t in let c = E.few in let l = E.low in omega arith

  pub ruling_start : (p : List ℕ) → Room 0 (entries 0 p) → Ruling n t 0 n (entries 0 p)
  unfolding entries_in rules_at range
  ruling_start p R = record { number = numbering_start n t; long = R; list = ap (rules_of n) (records_all t) }

  module _ (j fresh : ℕ) (e : Entries) (W : Ruling n t j fresh e) where
    module _ (l : j < t.count) (r : SheetRecord) (R : r ≡ row_at t.words j) where
      ruling_split : rules_of fresh (records_from t j) ≡ record_rules fresh (record_of r) ++ rules_of (next_fresh fresh (record_of (row_at t.words j))) (records_from t (j + 1))
      unfolding rules_of
      ruling_split = ap (rules_of fresh) (records_left t j l) ∙ rw R refl

      pub ruling_room : Room (length (record_rules fresh (record_of r))) e
      ruling_room =
          let L = W.long in
          let few = all_few in
          let whole = ap length W.list in
          let parts = length-append (entries_in t.words e) (rules_of fresh (records_from t j)) in
          let left = ap length ruling_split ∙ length-append (record_rules fresh (record_of r)) _ in
          record { long = L.long; room = omega (arith, length_entries t.words e) }

      pub ruling_fresh : FreshFor r fresh
      ruling_fresh = fresh_for n t E j fresh W.number l r R

      pub ruling_turn : (next : ℕ) → next ≡ cond (eqb r.kind 2) (suc fresh) fresh → (m : Entries) → Appended j r e (record_rules fresh (record_of r)) m → Ruling n t (j + 1) next m
      unfolding next_fresh record_of
      ruling_turn next X m A =
          let same : next ≡ next_fresh fresh (record_of (row_at t.words j)) = X ∙ ap (λ (x : SheetRecord). cond (eqb x.kind 2) (suc fresh) fresh) R in
          record {
            number = numbering_turn n t j fresh next W.number l same;
            long = A.long;
            list = rw same (ap (λ x. x ++ rules_of (next_fresh fresh (record_of (row_at t.words j))) (records_from t (j + 1))) (A.is t.words R)
                ∙ (append_assoc (entries_in t.words e) (record_rules fresh (record_of r)) _ ∙ (ap (λ x. entries_in t.words e ++ x) (sym ruling_split) ∙ W.list)));
          }

      pub ruling_small : fresh < 256
      ruling_small = let s = W.number.same in let l = E.low in omega arith

    module _ (l : t.count ≤ j) where
      all_rules : entries_in t.words e ≡ rules_of n (records_in t)
      unfolding rules_of
      all_rules = sym (append-nil (entries_in t.words e)) ∙ (ap (λ rs. entries_in t.words e ++ rules_of fresh rs) (sym (records_over t j l)) ∙ W.list)

      pub constraining_start : Constraining n t e.k 0 e
      constraining_start =
          record { size = sym (length_entries t.words e) ∙ ap length all_rules; long = W.long; list = ap (λ x. x ++ constraints_from (records_from t 0)) all_rules ∙ ap (λ rs. rules_of n (records_in t) ++ constraints_from rs) (records_all t) }

      pub all_atoms : fresh ≡ n + choices (records_in t)
      all_atoms = numbering_end n t j fresh W.number l

  module _ (rules i : ℕ) (e : Entries) (C : Constraining n t rules i e) where
    module _ (l : i < t.count) (r : SheetRecord) (R : r ≡ row_at t.words i) where
      constraining_split : constraints_from (records_from t i) ≡ constraint_of (record_of r) ++ constraints_from (records_from t (i + 1))
      constraining_split = ap constraints_from (records_left t i l) ∙ (constraints_left (record_of (row_at t.words i)) (records_from t (i + 1)) ∙ rw R refl)

      pub constraining_room : Room (length (constraint_of (record_of r))) e
      constraining_room =
          let L = C.long in
          let few = all_few in
          let whole = ap length C.list ∙ length-append (rules_of n (records_in t)) (constraints_from (records_in t)) in
          let parts = length-append (entries_in t.words e) (constraints_from (records_from t i)) in
          let left = ap length constraining_split ∙ length-append (constraint_of (record_of r)) _ in
          record { long = L.long; room = omega (arith, length_entries t.words e) }

      pub constraining_turn : (m : Entries) → Appended i r e (constraint_of (record_of r)) m → Constraining n t rules (i + 1) m
      constraining_turn m A =
          record {
            size = C.size;
            long = A.long;
            list = ap (λ x. x ++ constraints_from (records_from t (i + 1))) (A.is t.words R)
                ∙ (append_assoc (entries_in t.words e) (constraint_of (record_of r)) _ ∙ (ap (λ x. entries_in t.words e ++ x) (sym constraining_split) ∙ C.list));
          }

    module _ (l : t.count ≤ i) where
      all_entries : entries_in t.words e ≡ rules_of n (records_in t) ++ constraints_from (records_in t)
      unfolding constraints_from filter
      all_entries = sym (append-nil (entries_in t.words e)) ∙ (ap (λ rs. entries_in t.words e ++ constraints_from rs) (sym (records_over t i l)) ∙ C.list)

      size_all : e.k ≡ rules + length (constraints_from (records_in t))
      size_all = let s = C.size in sym (length_entries t.words e) ∙ (ap length all_entries ∙ (length-append (rules_of n (records_in t)) (constraints_from (records_in t)) ∙ ap (λ k. k + length (constraints_from (records_in t))) (sym s)))

      pub constraints_behind : rules ≤ e.k
      constraints_behind = let s = size_all in omega arith

      parts : rules_at t.words e.list 0 rules ++ rules_at t.words e.list rules (e.k - rules) ≡ rules_of n (records_in t) ++ constraints_from (records_in t)
      unfolding entries_in
      parts =
          let l = constraints_behind in
          sym (rules_split t.words e.list rules (e.k - rules))
          ∙ (ap (rules_at t.words e.list 0) (let s : rules + (e.k - rules) ≡ e.k = omega arith in s) ∙ all_entries)

      first : rules_at t.words e.list 0 rules ≡ rules_of n (records_in t)
      first =
          sym (take_at (rules_at t.words e.list 0 rules) _ rules (length_rules t.words e.list 0 rules)) ∙ (ap (take rules) parts ∙ take_at (rules_of n (records_in t)) _ rules (sym C.size))

      second : rules_at t.words e.list rules (e.k - rules) ≡ constraints_from (records_in t)
      second =
          sym (drop_at (rules_at t.words e.list 0 rules) _ rules (length_rules t.words e.list 0 rules)) ∙ (ap (drop rules) parts ∙ drop_at (rules_of n (records_in t)) _ rules (sym C.size))

      same_constraints : map (λ r. r.body) (constraints_from (records_in t)) ≡ constraints_of (records_in t)
      unfolding constraints_from constraints_of
      same_constraints = map-map (λ (r : Rule). r.body) rule_in (filter (λ r. eqb r.kind 1) (records_in t))

      bodies : bodies_at t.words e.list rules (e.k - rules) ≡ map (λ r. r.body) (rules_at t.words e.list rules (e.k - rules))
      unfolding bodies_at rules_at rule_of
      bodies = sym (map-map (λ (r : Rule). r.body) (λ i. rule_of (table_rule t.words e.list i)) (range rules (e.k - rules)))

      pub translated : (fresh : ℕ) → fresh ≡ n + choices (records_in t)
          → Translated n (records_in t) (table_of (record { atoms = fresh; rules = rules; constraints = e.k - rules }) t.words e.list)
      unfolding program_in program_of
      translated fresh F =
          let few = all_few in
          let s = size_all in
          let k = C.size in
          record {
            atoms = F;
            few = omega arith;
            is = rw F (ap₂ (λ rs cs. record { atoms = n + choices (records_in t); rules = rs; constraints = cs }) first
                (bodies ∙ (ap (map (λ r. r.body)) second ∙ same_constraints)));
          }
