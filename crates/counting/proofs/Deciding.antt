-- From the records to the number of their program's stable models.
use mathlib.Core.Bool.{true, ◌&&◌, ◌||◌, and-true}
use mathlib.Core.List.Memᴰ
use mathlib.Core.List.{List, Memᴰ}
use mathlib.Core.Logic.{⊎_elim}
use mathlib.Core.Path.{◌≡◌, refl, sym, ◌∙◌, ap, subst, fun_ext}
use Prim.Native.Nat.{ℕ, ◌-◌, ◌≤◌, ◌<◌}
use native.Mathlib.Omega.{arith}
use borrow.Author.Tests.{eqb-true, eq-eqb, ltb-true, ltb-false}
use lib.Dec.{eqb, ltb}
use lib.ListN.{length}
use Rattle.lists.specs.Lists.{any, filter, member, range}
use Rattle.lists.proofs.Bools.{by_bool, true_false, and_intro, and_left, and_right, or_cases, or_left, or_right}
use Rattle.lists.proofs.Members.{any_at, any_cong, any_intro, any_map, below_at, filter_cong, filter_in, filter_out, filter_range, member_in, member_out, range_in, range_out}
use Rattle.asp.specs.Count.{empty, count}
use Rattle.bits.specs.inner.Sets.{has, Size}
use Rattle.bits.specs.inner.Visited.{listed}
use Rattle.bits.proofs.Digits.{zero_has}
use Rattle.tables.specs.inner.Rows.{row_at}
use Rattle.tables.specs.declared.SheetRecord.{SheetRecord}
use Rattle.sheet.specs.Sheet.{Record, constraints_of, program_of}
use Rattle.sheet.specs.Format.{kind_fits}
use Rattle.sheet.specs.inner.Walk.{Sound, AllSound}
use Rattle.reader.specs.inner.Tabled.{record_of, records_at, ExactSets}
use Rattle.search.specs.inner.Decided.{CountRule, count_by}
use Rattle.search.specs.inner.Rules.{in_arrays, Masks, BodyAt, RuleAt, HeldRules, HeldBodies, LowHeads, Returning, Ready}
use Rattle.search.specs.inner.Search.{is_open, undecided, asks, Task, Counted}
use Rattle.search.specs.declared.Sizes.{Sizes}
use Rattle.search.specs.declared.Decisions.{Decisions}
use Rattle.count_preparation.specs.inner.Asked.{Countable, asks_by, AskedIn}
use Rattle.count_preparation.specs.inner.Prepared.{Prepared}
use Rattle.choice.specs.inner.FreeRules.{is_rule, count_rule, free_rules}
use Rattle.choice.proofs.Expanded.{head_written, neg_written}
use Rattle.choice.proofs.Number.{count_free}
use Rattle.counting.specs.DecisionAtoms.{asks_for, decision_atoms}
use Rattle.counting.specs.inner.Gates.{GatesOf}
use Rattle.counting.specs.inner.RecordsCounted.{ModelsCounted, Crowded, Exact}

-- A rule or a choice rule is no constraint.
rule_not_one : (r : Record) → is_rule r ≡ true → r.kind ≡ 1 → ⊥
rule_not_one r t e = ⊎_elim (λ z. let k = eqb-true r.kind 0 z in omega arith) (λ z. let k = eqb-true r.kind 2 z in omega arith) (or_cases (eqb r.kind 0) (eqb r.kind 2) t)

-- A sound record that is no constraint is a rule or a choice rule.
kind_rules : (n : ℕ) (r : Record) → Sound n r → (r.kind ≡ 1 → ⊥) → is_rule r ≡ true
unfolding kind_fits
kind_rules n r S ne =
    ⊎_elim
    (λ t. ⊎_elim (λ u. or_left (eqb r.kind 2) (and_left (eqb r.kind 0) (ltb r.head n) u)) (λ u. absurd (ne (eqb-true r.kind 1 (and_left (eqb r.kind 1) (eqb r.head 0) u))))
    (or_cases (eqb r.kind 0 && ltb r.head n) (eqb r.kind 1 && eqb r.head 0) t))
    (λ t. or_right (eqb r.kind 0) (and_left (eqb r.kind 2) (ltb r.head n) t))
    (or_cases (eqb r.kind 0 && ltb r.head n || eqb r.kind 1 && eqb r.head 0) (eqb r.kind 2 && ltb r.head n) S.kinds)

module _ (m : ℕ) (t : List ℕ) where
  abbrev rs : List Record
  rs = records_at t 0 m

  abbrev record_at : ℕ → Record
  record_at i = record_of (row_at t i)

  -- The records, by index.
  record_in : (i : ℕ) → i < m → Memᴰ (record_at i) rs
  unfolding records_at
  record_in i l = Memᴰ.map record_at (range_in 0 m i (omega arith) (omega arith))

  record_out : (r : Record) → Memᴰ r rs → (i : ℕ) × (i < m) × (record_at i ≡ r)
  unfolding records_at
  record_out r k = let u = Memᴰ.of_map record_at (range 0 m) k in let h = (range_out 0 m u.0 u.1).high in (u.0, omega arith, u.2)

  -- A rule of the count is that of a record.
  free_out : (q : CountRule) → Memᴰ q (free_rules rs) → (r : Record) × Memᴰ r rs × (is_rule r ≡ true) × (count_rule r ≡ q)
  unfolding free_rules
  free_out q k = let u = Memᴰ.of_map count_rule (filter is_rule rs) k in let v = filter_out is_rule rs u.0 u.1 in (u.0, v.0, v.1, u.2)

  free_in : (r : Record) → Memᴰ r rs → is_rule r ≡ true → Memᴰ (count_rule r) (free_rules rs)
  unfolding free_rules
  free_in r k t = Memᴰ.map count_rule (filter_in is_rule rs r k t)

  module _ (n : ℕ) (low : n ≤ 64) (A : AllSound n rs) where
    -- A record that is no constraint is a rule or a choice rule.
    is_rule_lem : (i : ℕ) → i < m → ((row_at t i).kind ≡ 1 → ⊥) → is_rule (record_at i) ≡ true
    unfolding record_of
    is_rule_lem i l ne = kind_rules n (record_at i) (A (record_at i) (record_in i l)) ne

    module _ (W : ExactSets m t) (x : ℕ) (X : AskedIn t m x) where
      -- The atoms to decide.
      asked_is : (a : ℕ) → has x a ≡ any (λ r. asks_for r a) rs
      unfolding records_at record_of asks_for asks_by
      asked_is a =
          X.members a
          ∙ (any_cong (λ j. asks_by (row_at t j) a) (λ j. asks_for (record_at j) a) (range 0 m)
          (λ j i. let h = (range_out 0 m j i).high in rw ((W j (omega arith)).neg a) refl)
          ∙ sym (any_map (λ r. asks_for r a) record_at (range 0 m)))

      asks_low : (r : Record) → Memᴰ r rs → (a : ℕ) → asks_for r a ≡ true → a < n
      unfolding asks_for
      asks_low r k a t =
          ⊎_elim
          (λ u. below_at n r.body.neg (neg_written n r.body (A r k).atoms) a (member_out a r.body.neg (and_right (is_rule r) (member a r.body.neg) u)))
          (λ u.
          let e = eqb-true r.head a (and_right (eqb r.kind 2) (eqb r.head a) u) in
          let h = head_written n r (A r k) (or_right (eqb r.kind 0) (and_left (eqb r.kind 2) (eqb r.head a) u)) in
          omega arith)
          (or_cases (is_rule r && member a r.body.neg) (eqb r.kind 2 && eqb r.head a) t)

      asked_low : (a : ℕ) → has x a ≡ true → a < n
      asked_low a t = let u = any_at (λ r. asks_for r a) rs (sym (asked_is a) ∙ t) in asks_low u.0 u.1 a u.2

      asked_here : (q : CountRule) → Memᴰ q (free_rules rs) → (a : ℕ) → asks q a → has x a ≡ true
      unfolding asks_for
      asked_here q k a s =
          let u = free_out q k in
          let r = u.0 in
          let here : asks_for r a ≡ true = ⊎_elim
          (λ i. or_left _ (and_intro u.2 (member_in a r.body.neg (subst (λ (q : CountRule). Memᴰ a q.rule.body.neg) (sym u.3) i))))
          (λ i. or_right (is_rule r && member a r.body.neg) (and_intro (ap (λ (q : CountRule). q.free) u.3 ∙ i.0) (eq-eqb r.head a (ap (λ (q : CountRule). q.rule.head) u.3 ∙ sym i.1))))
          s in
          asked_is a ∙ any_intro (λ r. asks_for r a) rs r u.1 here

      asked_list : listed x ≡ decision_atoms n rs
      unfolding decision_atoms listed
      asked_list = filter_range (has x) n 64 low asked_low ∙ filter_cong (has x) (λ a. any (λ r. asks_for r a) rs) (range 0 n) (λ a _. asked_is a)

      -- With the records in another order.
      module _ (u : List ℕ) (k : ℕ) (S : Prepared m t u k) (gates : List ℕ) (G : GatesOf u k gates) where
        abbrev sizes : Sizes
        sizes = record { rules = k; constraints = m - k }

        abbrev M : Masks
        M = in_arrays u gates sizes

        abbrev d : Decisions
        d = record { atoms = x; ins = 0; outs = 0 }

        body_at : (i j : ℕ) → i < m → row_at u j ≡ row_at t i → BodyAt u (record_at i).body j
        unfolding record_of
        body_at i j l s = rw s record { positives = (W i l).pos; negatives = (W i l).neg }

        rule_at : (i j : ℕ) → i < m → row_at u j ≡ row_at t i → j < k → RuleAt M (count_rule (record_at i)) j
        unfolding record_of
        rule_at i j h s l =
            record {
              heads = ap (λ (r : SheetRecord). r.head) s;
              body = body_at i j h s;
              gates = λ b. (G.gate j l).members b ∙ rw s refl;
            }

        -- The kind of a record that stands elsewhere.
        kind_is : (i j : ℕ) → row_at u j ≡ row_at t i → (row_at u j).kind ≡ (record_at i).kind
        unfolding record_of
        kind_is i j s = ap (λ (r : SheetRecord). r.kind) s

        held_rules : HeldRules (free_rules rs) M
        unfolding record_of
        held_rules =
            let few = S.few in
            record {
              sound = λ j _ l.
                  let v = S.reordered.sound j (omega arith) in
                  let r = is_rule_lem v.0 v.1 (λ e. S.rules j (omega arith) (kind_is v.0 j v.2 ∙ e)) in
                  (count_rule (record_at v.0), free_in (record_at v.0) (record_in v.0 v.1) r, rule_at v.0 j v.1 v.2 (omega arith));
              complete = λ q i.
                  let p = free_out q i in
                  let o = record_out p.0 p.1 in
                  let v = S.reordered.complete o.0 o.1 in
                  let r : is_rule (record_at o.0) ≡ true = ap is_rule o.2 ∙ p.2 in
                  let j_low : v.0 < k = by_bool (ltb v.0 k) (ltb-true v.0 k)
                  (λ f. absurd (rule_not_one (record_at o.0) r (sym (kind_is o.0 v.0 v.2) ∙ S.constraints v.0 (ltb-false v.0 k f) v.1))) in
                  (v.0, omega arith, omega arith, subst (λ (q : CountRule). RuleAt M q v.0) (ap count_rule o.2 ∙ p.3) (rule_at o.0 v.0 o.1 v.2 j_low));
            }

        held_bodies : HeldBodies (constraints_of rs) u sizes
        unfolding constraints_of record_of
        held_bodies =
            let few = S.few in
            record {
              sound = λ j h l.
                  let v = S.reordered.sound j (omega arith) in
                  let e = sym (kind_is v.0 j v.2) ∙ S.constraints j h (omega arith) in
                  let r = record_at v.0 in
                  let kept = filter_in (λ r. eqb r.kind 1) rs r (record_in v.0 v.1) (eq-eqb r.kind 1 e) in
                  (r.body, Memᴰ.map (λ (r : Record). r.body) kept, body_at v.0 j v.1 v.2);
              complete = λ b i.
                  let y = Memᴰ.of_map (λ (r : Record). r.body) (filter (λ r. eqb r.kind 1) rs) i in
                  let w = filter_out (λ (r : Record). eqb r.kind 1) rs y.0 y.1 in
                  let o = record_out y.0 w.0 in
                  let v = S.reordered.complete o.0 o.1 in
                  let one : (row_at u v.0).kind ≡ 1 = kind_is o.0 v.0 v.2 ∙ (ap (λ (r : Record). r.kind) o.2 ∙ eqb-true y.0.kind 1 w.1) in
                  let far : k ≤ v.0 = by_bool (ltb v.0 k) (λ q. absurd (S.rules v.0 (ltb-true v.0 k q) one)) (ltb-false v.0 k) in
                  let h = v.1 in
                  (v.0, far, omega arith, subst (λ b. BodyAt u b v.0) (ap (λ (r : Record). r.body) o.2 ∙ y.2) (body_at o.0 v.0 o.1 v.2));
            }

        task : Task n (free_rules rs) (constraints_of rs) M d
        task =
            record {
              rules = held_rules;
              bodies = held_bodies;
              heads_low = λ q i. let u = free_out q i in subst (λ (q : CountRule). q.rule.head < n) u.3 (head_written n u.0 (A u.0 u.1) u.2);
              negs_low = λ q i a s. let u = free_out q i in
                  below_at n u.0.body.neg (neg_written n u.0.body (A u.0 u.1).atoms) a (subst (λ (q : CountRule). Memᴰ a q.rule.body.neg) (sym u.3) s);
              known = asked_here;
              low = asked_low;
              ins_low = λ a e. absurd (true_false e (zero_has a));
              apart = λ a e. zero_has a;
            }

        all_counted : (c : ℕ) → Counted M d c → c ≡ count (program_of n rs)
        unfolding empty
        all_counted c K =
            K.is n (free_rules rs) (constraints_of rs) task
            ∙ (ap (λ X. count_by n (free_rules rs) (constraints_of rs) X X) (fun_ext nothing) ∙ sym (count_free n rs A))
          where
            nothing : (a : ℕ) → has 0 a ≡ empty a
            nothing a = zero_has a

-- The head of a record that is no constraint is a written atom.
pub heads_written : (m : ℕ) (t : List ℕ) (n : ℕ) → AllSound n (records_at t 0 m) → (j : ℕ) → j < m → ((row_at t j).kind ≡ 1 → ⊥) → (row_at t j).head < n
unfolding record_of
heads_written m t n A j l ne =
    let S = A (record_at m t j) (record_in m t j l) in
    head_written n (record_at m t j) S (kind_rules n (record_at m t j) S ne)

-- The count of prepared records.
module _ (m : ℕ) (t u : List ℕ) (k : ℕ) (S : Prepared m t u k) where
  pub models_counted : (x : ℕ) → AskedIn t m x → ExactSets m t → (gates : List ℕ) → GatesOf u k gates
      → (c : ℕ) → Counted (in_arrays u gates (record { rules = k; constraints = m - k })) (record { atoms = x; ins = 0; outs = 0 }) c → ModelsCounted m t c
  models_counted x X W gates G c K = record { is = λ n l A. all_counted m t n l A W x X u k S gates G c K }

  -- The heads of rules are atoms, in any order.
  pub heads_low : Countable m t → LowHeads u k
  heads_low C =
      let few = S.few in
      record {
        low = λ j l.
            let v = S.reordered.sound j (omega arith) in
            rw v.2 (C.low v.0 v.1 (λ e. S.rules j l (rw v.2 e)));
      }

  pub rules_few : Countable m t → k ≤ 128
  rules_few C = let few = S.few in let l = C.few in omega arith

  pub ready : Countable m t → (back : List ℕ) → Returning u back k → Ready u back (record { rules = k; constraints = m - k })
  ready C back B = let few = S.few in let l = C.few in record { few = omega arith; low = heads_low C; returns = B }

-- Nothing is decided yet.
pub none_decided : (x : ℕ) → length (listed x) ≤ 16 → undecided (record { atoms = x; ins = 0; outs = 0 }) ≤ 16
unfolding undecided listed
none_decided x l =
    let same = ap length (filter_cong (is_open (record { atoms = x; ins = 0; outs = 0 })) (has x) (range 0 64) (λ a _. rw (zero_has a) (and-true (has x a)))) in
    omega arith

-- The ways out of the count.
pub size_few : (x z : ℕ) → Size x z → z ≤ 16 → length (listed x) ≤ 16
unfolding listed
size_few x z Z l = let e = Z.is in omega arith

module _ (m : ℕ) (t : List ℕ) (x : ℕ) (X : AskedIn t m x) (W : ExactSets m t) (z : ℕ) (Z : Size x z) where
  asked_number : (n : ℕ) → n ≤ 64 → AllSound n (records_at t 0 m) → z ≡ length (decision_atoms n (records_at t 0 m))
  unfolding listed
  asked_number n l A = Z.is ∙ ap length (asked_list m t n l A W x X)

  pub found_many : 16 < z → Crowded m t
  found_many l = record { many = λ n h A. let e = asked_number n h A in omega arith }

  pub found_exact : (c : ℕ) → z ≤ 16 → ModelsCounted m t c → Exact m t c
  found_exact c l K = record { few = λ n h A. let e = asked_number n h A in omega arith; counted = K }
