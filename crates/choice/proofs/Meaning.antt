-- The stable models of an expanded program, cut to the written atoms, are the states that are stable by the free rules.
use mathlib.Core.Bool.{true, false, not, ◌&&◌, ◌||◌, cond}
use mathlib.Core.List.Memᴰ
use mathlib.Core.List.{List, Memᴰ}
use mathlib.Core.Logic.{⊎_elim}
use mathlib.Core.Path.{◌≡◌, refl, sym, ◌∙◌, ap, subst, fun_ext}
use Prim.Native.Nat.{ℕ, ◌≤◌, ◌<◌}
use native.Mathlib.Omega.{arith}
use borrow.Author.Tests.{eqb-true, eq-eqb, ltb-true, ltb-false, lt-ltb, le-ltb, ne_eqb}
use lib.Dec.{eqb, ltb}
use Rattle.lists.specs.Lists.{all, filter}
use Rattle.lists.proofs.Bools.{by_bool, true_false, is_true, is_false, bool_ext, and_intro, and_left, and_right, or_cases, or_left, or_right, not_intro, not_elim}
use Rattle.lists.proofs.Members.{all_at, below_at, all_intro, all_mono, all_cong, filter_in, filter_out}
use Rattle.asp.specs.Program.{Body, State, outside, holds}
use Rattle.asp.specs.LeastModel.{consequences, Inside}
use Rattle.asp.specs.Least.{Closed, Least}
use Rattle.asp.specs.StableModel.{StableModel, derived, lawful}
use Rattle.asp.proofs.Derived.{Fires, next, next_mono, fires_in, fires_out, derived_least, derives}
use Rattle.search.specs.inner.Decided.{CountRule, definites, applies, is_stable_by}
use Rattle.search.proofs.Branching as branching
use Rattle.sheet.specs.Sheet.{Record, rule_in, adding, unless, rules_of, constraints_of, program_of}
use Rattle.sheet.specs.inner.Walk.{AllSound}
use Rattle.choice.specs.Written.{projected}
use Rattle.choice.specs.inner.FreeRules.{is_rule, count_rule, free_rules}
use Rattle.choice.proofs.Expanded.{numbered, numbered_in, numbered_out, numbered_one, Source, plain, chosen, fresh, rules_in, rules_out, all_adding, head_written, rule_head, choice_head, pos_written, neg_written, constraint_written, expanded_formed}
use Rattle.choice.proofs.Unique.{written_same, written_within, all_agree, outside_agree, stable_least}

-- The body's negative atoms are outside X and its positive ones in L.
abbrev Fit : State → State → Body → Type 0
Fit X L b = (outside X b.neg ≡ true) × (all L b.pos ≡ true)

-- A record's rule in the expanded program fires for a: of a rule its own, of a choice rule its head's or its fresh atom's.
data Fired (n : ℕ) (rs : List Record) (X L : State) (a : ℕ) : Type 0 where
  by_rule : (r : Record) (g : ℕ) → Memᴰ (r, g) (numbered n rs) → r.kind ≡ 0 → r.head ≡ a → Fit X L r.body → Fired n rs X L a
  by_choice : (r : Record) (g : ℕ) → Memᴰ (r, g) (numbered n rs) → r.kind ≡ 2 → r.head ≡ a → X g ≡ false → Fit X L r.body → Fired n rs X L a
  by_fresh : (r : Record) (g : ℕ) → Memᴰ (r, g) (numbered n rs) → r.kind ≡ 2 → g ≡ a → X r.head ≡ false → Fit X L r.body → Fired n rs X L a

outside_adding : (X : State) (a : ℕ) (l : List ℕ) → outside X (adding a l) ≡ (outside X l && not (X a))
unfolding outside
outside_adding X a l = all_adding (λ b. not (X b)) a l

module _ (n : ℕ) (rs : List Record) (X L : State) (a : ℕ) where
  fired_out : next (program_of n rs) X L a ≡ true → Fired n rs X L a
  unfolding program_of unless
  fired_out e =
      let F = fires_out (rules_of n rs) X L a e in
      let u = rules_out n rs F.rule F.stands in
      by_source u.0 u.1 u.2 F u.3
    where
      by_source : (r : Record) (g : ℕ) → Memᴰ (r, g) (numbered n rs) → (F : Fires (rules_of n rs) X L a) → Source r g F.rule → Fired n rs X L a
      by_source r g m F (plain k q) = by_rule r g m k (rw q at F.head) (rw q at F.negatives, rw q at F.positives)
      by_source r g m F (chosen k q) =
          let o = rw (q, outside_adding) at F.negatives in
          by_choice r g m k (rw q at F.head) (not_elim (and_right (outside X r.body.neg) (not (X g)) o)) (and_left (outside X r.body.neg) (not (X g)) o, rw q at F.positives)
      by_source r g m F (fresh k q) =
          let o = rw (q, outside_adding) at F.negatives in
          by_fresh r g m k (rw q at F.head) (not_elim (and_right (outside X r.body.neg) (not (X r.head)) o)) (and_left (outside X r.body.neg) (not (X r.head)) o, rw q at F.positives)

  fired_in : Fired n rs X L a → next (program_of n rs) X L a ≡ true
  unfolding program_of unless
  fired_in (by_rule r g m k h f) =
      fires_in (rules_of n rs) X L a (record { rule = rule_in r; stands = rules_in n rs r g (rule_in r) m (plain k refl); head = h; negatives = f.0; positives = f.1 })
  fired_in (by_choice r g m k h o f) =
      let q = unless r.head r.body g in
      fires_in (rules_of n rs) X L a (record { rule = q; stands = rules_in n rs r g q m (chosen k refl); head = h; negatives = rw outside_adding (and_intro f.0 (not_intro o)); positives = f.1 })
  fired_in (by_fresh r g m k h o f) =
      let q = unless g r.body r.head in
      fires_in (rules_of n rs) X L a (record { rule = q; stands = rules_in n rs r g q m (fresh k refl); head = h; negatives = rw outside_adding (and_intro f.0 (not_intro o)); positives = f.1 })

-- The consequences of the free rules that apply in X.
abbrev pub freely : List Record → State → State → State
freely rs X = consequences (definites (applies X) (free_rules rs))

-- A record's free rule fires for a.
data FreeFired (rs : List Record) (X L : State) (a : ℕ) : Type 0 where
  rule_fires : (r : Record) → Memᴰ r rs → r.kind ≡ 0 → r.head ≡ a → Fit X L r.body → FreeFired rs X L a
  free_fires : (r : Record) → Memᴰ r rs → r.kind ≡ 2 → r.head ≡ a → X a ≡ true → Fit X L r.body → FreeFired rs X L a

module _ (rs : List Record) where
  free_rule_out : (c : CountRule) → Memᴰ c (free_rules rs) → (r : Record) × Memᴰ r rs × (is_rule r ≡ true) × (count_rule r ≡ c)
  unfolding free_rules
  free_rule_out c m =
      let u = Memᴰ.of_map count_rule (filter is_rule rs) m in
      let v = filter_out is_rule rs u.0 u.1 in
      (u.0, v.0, v.1, u.2)

  free_rule_in : (r : Record) → Memᴰ r rs → is_rule r ≡ true → Memᴰ (count_rule r) (free_rules rs)
  unfolding free_rules
  free_rule_in r m e = Memᴰ.map count_rule (filter_in is_rule rs r m e)

  module _ (X L : State) (a : ℕ) where
    free_out : freely rs X L a ≡ true → FreeFired rs X L a
    free_out e =
        let F = branching.fires_out (applies X) (free_rules rs) L a e in
        let u = free_rule_out F.rule F.stands in
        let r = u.0 in
        let h : r.head ≡ a = ap (λ (c : CountRule). c.rule.head) u.3 ∙ F.head in
        let p : applies X (count_rule r) ≡ true = ap (applies X) u.3 ∙ F.passes in
        let f : Fit X L r.body = (and_left (outside X r.body.neg) (not (eqb r.kind 2) || X r.head) p, ap (λ (c : CountRule). all L c.rule.body.pos) u.3 ∙ F.positives) in
        ⊎_elim (λ t. rule_fires r u.1 (eqb-true r.kind 0 t) h f)
        (λ t. free_fires r u.1 (eqb-true r.kind 2 t) h (⊎_elim (λ z. absurd (true_false t (not_elim z))) (λ z. ap X (sym h) ∙ z) (or_cases (not (eqb r.kind 2)) (X r.head) (and_right (outside X r.body.neg) (not (eqb r.kind 2) || X r.head) p))) f)
        (or_cases (eqb r.kind 0) (eqb r.kind 2) u.2)

    free_in : FreeFired rs X L a → freely rs X L a ≡ true
    free_in (rule_fires r m k h f) =
        branching.fires_in (applies X) (free_rules rs) L a (record {
          rule = count_rule r;
          stands = free_rule_in r m (or_left (eqb r.kind 2) (eq-eqb r.kind 0 k));
          passes = and_intro f.0 (or_left (X r.head) (not_intro (ne_eqb r.kind 2 (λ q. omega arith))));
          head = h;
          positives = f.1;
        })
    free_in (free_fires r m k h t f) =
        branching.fires_in (applies X) (free_rules rs) L a (record {
          rule = count_rule r;
          stands = free_rule_in r m (or_right (eqb r.kind 0) (eq-eqb r.kind 2 k));
          passes = and_intro f.0 (or_right (not (eqb r.kind 2)) (ap X h ∙ t));
          head = h;
          positives = f.1;
        })

module _ (n : ℕ) (rs : List Record) (A : AllSound n rs) where
  -- The head of a free rule is a written atom.
  pub free_head : (c : CountRule) → Memᴰ c (free_rules rs) → c.rule.head < n
  free_head c m = let u = free_rule_out rs c m in subst (λ c. c.rule.head < n) u.3 (head_written n u.0 (A u.0 u.1) u.2)

  -- States that agree on the written atoms agree on the bodies of records, and obey the same constraints.
  module _ (X Y : State) (same : (a : ℕ) → a < n → X a ≡ Y a) where
    move_neg : (r : Record) → Memᴰ r rs → outside X r.body.neg ≡ true → outside Y r.body.neg ≡ true
    move_neg r m e = sym (outside_agree n X Y same r.body.neg (neg_written n r.body (A r m).atoms)) ∙ e

    move_pos : (r : Record) → Memᴰ r rs → all X r.body.pos ≡ true → all Y r.body.pos ≡ true
    move_pos r m e = sym (all_agree n X Y same r.body.pos (pos_written n r.body (A r m).atoms)) ∙ e

    lawful_agree : all (λ b. not (holds X b)) (constraints_of rs) ≡ all (λ b. not (holds Y b)) (constraints_of rs)
    unfolding holds
    lawful_agree =
        all_cong (λ b. not (holds X b)) (λ b. not (holds Y b)) (constraints_of rs) (λ b m. let w = constraint_written n rs A b m in
        rw (all_agree n X Y same b.pos (pos_written n b w), outside_agree n X Y same b.neg (neg_written n b w)) refl)

  -- The cut of a stable model is stable by the free rules.
  module _ (X : State) (S : StableModel (program_of n rs) X) where
    abbrev Y : State
    Y = projected n X

    cut_same : (a : ℕ) → a < n → X a ≡ Y a
    cut_same a l = sym (written_same n X a l)

    LX : Least (next (program_of n rs) X) X
    LX = stable_least (program_of n rs) (expanded_formed n rs A) X S

    cut_closed : Closed (freely rs Y) Y
    cut_closed a e = by_free (free_out rs Y Y a e)
      where
        by_free : FreeFired rs Y Y a → Y a ≡ true
        by_free (rule_fires r m k h f) =
            let u = numbered_in n rs r m in
            let l = rule_head n rs A r u.0 u.1 k in
            written_same n X a (omega arith) ∙ LX.closed a (fired_in n rs X X a (by_rule r u.0 u.1 k h (move_neg Y X (written_same n X) r m f.0, move_pos Y X (written_same n X) r m f.1)))
        by_free (free_fires r m k h t f) = t

    cut_least : (Z : State) → Closed (freely rs Y) Z → Inside Y Z
    cut_least Z c a e =
        let l = written_within n X a e in
        ⊎_elim (λ h. absurd (true_false (lt-ltb a n l) (not_elim h))) (λ z. z)
        (or_cases (not (ltb a n)) (Z a) (and_right (X a) (not (ltb a n) || Z a) (LX.least smaller closed a (cut_same a l ∙ e))))
      where
        smaller : State
        smaller a = X a && (not (ltb a n) || Z a)

        inside : Inside smaller X
        inside a = and_left (X a) (not (ltb a n) || Z a)

        old : (r : Record) → Memᴰ r rs → all smaller r.body.pos ≡ true → all Z r.body.pos ≡ true
        old r m e =
            all_intro Z r.body.pos (λ a k. ⊎_elim (λ h. absurd (true_false (lt-ltb a n (below_at n r.body.pos (pos_written n r.body (A r m).atoms) a k)) (not_elim h))) (λ z. z)
            (or_cases (not (ltb a n)) (Z a) (and_right (X a) (not (ltb a n) || Z a) (all_at smaller r.body.pos e a k))))

        by_fired : (a : ℕ) → X a ≡ true → Fired n rs X smaller a → (not (ltb a n) || Z a) ≡ true
        by_fired a t (by_rule r g m k h f) =
            let s = (numbered_out n rs r g m).stands in
            or_right (not (ltb a n)) (c a (free_in rs Y Z a (rule_fires r s k h (move_neg X Y cut_same r s f.0, old r s f.1))))
        by_fired a t (by_choice r g m k h o f) =
            let s = (numbered_out n rs r g m).stands in
            let l = choice_head n rs A r g m k in
            or_right (not (ltb a n)) (c a (free_in rs Y Z a (free_fires r s k h (written_same n X a (omega arith) ∙ t) (move_neg X Y cut_same r s f.0, old r s f.1))))
        by_fired a t (by_fresh r g m k h o f) =
            let l = (numbered_out n rs r g m).low in
            or_left (Z a) (not_intro (le-ltb a n (omega arith)))

        closed : Closed (next (program_of n rs) X) smaller
        closed a e =
            let t = LX.closed a (next_mono (program_of n rs) X smaller X inside a e) in
            and_intro t (by_fired a t (fired_out n rs X smaller a e))

    pub cut_stable : is_stable_by n (free_rules rs) (constraints_of rs) (projected n X) ≡ true
    unfolding program_of lawful
    cut_stable =
        branching.stable_by_in n (free_rules rs) free_head (constraints_of rs) Y
        (record { within = written_within n X; least = record { closed = cut_closed; least = cut_least }; lawful = sym (lawful_agree X Y cut_same) ∙ S.obeys })

  -- A state stable by the free rules, with its fresh atoms: each is in where its rule fires.
  lifted : State → State
  lifted Y a = cond (ltb a n) (Y a) (next (program_of n rs) Y Y a)

  lifted_low : (Y : State) (a : ℕ) → a < n → lifted Y a ≡ Y a
  unfolding lifted
  lifted_low Y a l = rw (lt-ltb a n l) refl

  lifted_high : (Y : State) (a : ℕ) → n ≤ a → lifted Y a ≡ next (program_of n rs) Y Y a
  unfolding lifted
  lifted_high Y a l = rw (le-ltb a n l) refl

  module _ (Y : State) (within : (a : ℕ) → Y a ≡ true → a < n) (LY : Least (freely rs Y) Y) (lawfulY : all (λ b. not (holds Y b)) (constraints_of rs) ≡ true) where
    abbrev X : State
    X = lifted Y

    same : (a : ℕ) → a < n → X a ≡ Y a
    same = lifted_low Y

    back : (a : ℕ) → a < n → Y a ≡ X a
    back a l = sym (same a l)

    fresh_value : (r : Record) (g : ℕ) → Memᴰ (r, g) (numbered n rs) → X g ≡ next (program_of n rs) Y Y g
    fresh_value r g m = lifted_high Y g (numbered_out n rs r g m).low

    lifted_closed : Closed (next (program_of n rs) X) X
    lifted_closed a e = by_fired (fired_out n rs X X a e)
      where
        by_fired : Fired n rs X X a → X a ≡ true
        by_fired (by_rule r g m k h f) =
            let s = (numbered_out n rs r g m).stands in
            let l = rule_head n rs A r g m k in
            same a (omega arith) ∙ LY.closed a (free_in rs Y Y a (rule_fires r s k h (move_neg X Y same r s f.0, move_pos X Y same r s f.1)))
        by_fired (by_choice r g m k h o f) =
            let s = (numbered_out n rs r g m).stands in
            let l = choice_head n rs A r g m k in
            same a (omega arith) ∙ is_true (λ z. true_false
            (fresh_value r g m ∙ fired_in n rs Y Y g (by_fresh r g m k refl (ap Y h ∙ z) (move_neg X Y same r s f.0, move_pos X Y same r s f.1))) o)
        by_fired (by_fresh r g m k h o f) =
            let s = (numbered_out n rs r g m).stands in
            ap X (sym h) ∙ fresh_value r g m
            ∙ fired_in n rs Y Y g (by_fresh r g m k refl (back r.head (choice_head n rs A r g m k) ∙ o) (move_neg X Y same r s f.0, move_pos X Y same r s f.1))

    -- Where the head of a choice rule is in, its fresh atom is out.
    fresh_out : (r : Record) (g : ℕ) → Memᴰ (r, g) (numbered n rs) → r.kind ≡ 2 → Y r.head ≡ true → X g ≡ false
    fresh_out r g m k t = is_false (λ e. never (fired_out n rs Y Y g (sym (fresh_value r g m) ∙ e)))
      where
        high : n ≤ g
        high = (numbered_out n rs r g m).low

        never : Fired n rs Y Y g → ⊥
        never (by_rule d j i q h f) = omega (arith, high, rule_head n rs A d j i q)
        never (by_choice d j i q h o f) = omega (arith, high, choice_head n rs A d j i q)
        never (by_fresh d j i q h o f) = true_false (ap (λ (r : Record). Y r.head) (numbered_one n rs d r g q k (rw h at i) m) ∙ t) o

    module _ (Z : State) (c : Closed (next (program_of n rs) X) Z) where
      low_inside : Inside Y Z
      low_inside = LY.least Z (λ a e. by_free a (free_out rs Y Z a e))
        where
          by_free : (a : ℕ) → FreeFired rs Y Z a → Z a ≡ true
          by_free a (rule_fires r s k h f) =
              let u = numbered_in n rs r s in
              c a (fired_in n rs X Z a (by_rule r u.0 u.1 k h (move_neg Y X back r s f.0, f.1)))
          by_free a (free_fires r s k h t f) =
              let u = numbered_in n rs r s in
              c a (fired_in n rs X Z a (by_choice r u.0 u.1 k h (fresh_out r u.0 u.1 k (ap Y h ∙ t)) (move_neg Y X back r s f.0, f.1)))

      lifted_inside : Inside X Z
      lifted_inside a e =
          by_bool (ltb a n) (λ t. low_inside a (back a (ltb-true a n t) ∙ e))
          (λ f. let l = ltb-false a n f in by_fired l (fired_out n rs Y Y a (sym (lifted_high Y a l) ∙ e)))
        where
          by_fired : n ≤ a → Fired n rs Y Y a → Z a ≡ true
          by_fired l (by_rule r g m k h f) = absurd (omega (arith, rule_head n rs A r g m k))
          by_fired l (by_choice r g m k h o f) = absurd (omega (arith, choice_head n rs A r g m k))
          by_fired l (by_fresh r g m k h o f) =
              let s = (numbered_out n rs r g m).stands in
              c a (fired_in n rs X Z a (by_fresh r g m k h (same r.head (choice_head n rs A r g m k) ∙ o) (move_neg Y X back r s f.0, all_mono Y Z r.body.pos low_inside f.1)))

    lifted_within : (a : ℕ) → X a ≡ true → a < (program_of n rs).atoms
    unfolding program_of
    lifted_within a e =
        by_bool (ltb a n) (λ t. let l = ltb-true a n t in omega arith)
        (λ f. (derives (program_of n rs) (expanded_formed n rs A) Y).bounded Y a (sym (lifted_high Y a (ltb-false a n f)) ∙ e))

    lifted_stable : StableModel (program_of n rs) X
    unfolding lawful program_of
    lifted_stable =
        let D = derived_least (program_of n rs) (expanded_formed n rs A) X in
        record {
          within = lifted_within;
          fixpoint = λ a. bool_ext (lifted_inside (derived (program_of n rs) X) D.closed a) (D.least X lifted_closed a);
          obeys = lawful_agree X Y same ∙ lawfulY;
        }

    lifted_cut : projected n X ≡ Y
    lifted_cut =
        fun_ext (λ a. bool_ext (λ e. let l = written_within n X a e in back a l ∙ sym (written_same n X a l) ∙ e) (λ e. let l = within a e in written_same n X a l ∙ same a l ∙ e))

  -- A set of written atoms that is stable by the free rules is the cut of a stable model.
  pub stable_lift : (Y : State) → ((a : ℕ) → Y a ≡ true → a < n) → is_stable_by n (free_rules rs) (constraints_of rs) Y ≡ true → (X : State) × StableModel (program_of n rs) X × (projected n X ≡ Y)
  stable_lift Y within e =
      let B = branching.stable_by_out n (free_rules rs) free_head (constraints_of rs) Y within e in
      (lifted Y, lifted_stable Y within B.least B.lawful, lifted_cut Y within B.least B.lawful)
