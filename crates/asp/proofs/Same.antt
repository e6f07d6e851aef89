-- The stable models of document 01 are the answer sets of document 000, and the test for them is right.
use mathlib.Core.Bool.{Bool, true, false, not, ◌&&◌, ◌||◌, beq}
use mathlib.Core.List.Memᴰ
use mathlib.Core.List.{List, [], ◌∷◌, map, Memᴰ}
use mathlib.Core.Logic.{⊎_elim, ◌↔◌}
use mathlib.Core.Path.{◌≡◌, refl, sym, ◌∙◌, ap, subst, fun_ext}
use Prim.Native.Nat.{ℕ, ◌<◌}
use native.Mathlib.Omega.{arith}
use borrow.Author.Tests.{eq-eqb, ne_eqb}
use lib.Dec.{eqb}
use Rattle.lists.specs.Lists.{all, any, range}
use Rattle.lists.proofs.Bools.{true_false, is_true, is_false, bool_ext, and_intro, and_left, and_right, or_cases, or_left, or_right, not_intro, not_elim}
use Rattle.lists.proofs.Members.{all_at, all_intro, all_mono, all_append, any_at, any_intro, filter_in, filter_out, range_in}
use Rattle.asp.specs.Program.{Body, Rule, Program, State, outside, holds, well_formed}
use Rattle.asp.specs.LeastModel.{Inside}
use Rattle.asp.specs.Least.{Closed}
use Rattle.asp.specs.StableModel.{derived, lawful, StableModel, is_stable}
use Rattle.asp.specs.AnswerSet.{satisfies, flp_reduct, bottom_rule, normal_rules, IsAnswerSet}
use Rattle.asp.proofs.Derived.{next, head_below, fires_in, fires_out, derived_least, derived_within}

-- Bodies.
pub holds_in : (X : State) (b : Body) → all X b.pos ≡ true → outside X b.neg ≡ true → holds X b ≡ true
unfolding holds
holds_in X b p q = and_intro p q

pub holds_pos : (X : State) (b : Body) → holds X b ≡ true → all X b.pos ≡ true
unfolding holds
holds_pos X b h = and_left (all X b.pos) (outside X b.neg) h

pub holds_neg : (X : State) (b : Body) → holds X b ≡ true → outside X b.neg ≡ true
unfolding holds
holds_neg X b h = and_right (all X b.pos) (outside X b.neg) h

outside_less : (X Y : State) → Inside X Y → (l : List ℕ) → outside Y l ≡ true → outside X l ≡ true
unfolding outside
outside_less X Y i l h = all_mono (λ a. not (Y a)) (λ a. not (X a)) l (λ a e. not_intro (is_false (λ t. true_false (i a t) (not_elim e)))) h

pub beq_in : (x y : Bool) → x ≡ y → beq x y ≡ true
beq_in true true e = refl
beq_in true false e = sym e
beq_in false true e = e
beq_in false false e = refl

pub beq_out : (x y : Bool) → beq x y ≡ true → x ≡ y
beq_out true true e = refl
beq_out true false e = sym e
beq_out false true e = e
beq_out false false e = refl

-- An interpretation satisfies a rule just when the head is in wherever the body holds.
satisfies_out : (J : State) (r : Rule) → satisfies J r ≡ true → holds J r.body ≡ true → J r.head ≡ true
unfolding satisfies outside
satisfies_out J r s h =
    ⊎_elim
    (λ u. ⊎_elim (λ t. t) (λ p. let w = any_at (λ a. not (J a)) r.body.pos p in absurd (true_false (all_at J r.body.pos (holds_pos J r.body h) w.0 w.1) (not_elim w.2)))
    (or_cases (J r.head) (any (λ a. not (J a)) r.body.pos) u))
    (λ n. let w = any_at J r.body.neg n in absurd (true_false w.2 (not_elim (all_at (λ a. not (J a)) r.body.neg (holds_neg J r.body h) w.0 w.1))))
    (or_cases (J r.head || any (λ a. not (J a)) r.body.pos) (any J r.body.neg) s)

satisfies_in : (J : State) (r : Rule) → (holds J r.body ≡ true → J r.head ≡ true) → satisfies J r ≡ true
unfolding satisfies outside
satisfies_in J r h =
    is_true (λ f. true_false (or_left (any J r.body.neg) (or_left (any (λ a. not (J a)) r.body.pos) (h (body f)))) f)
  where
    body : satisfies J r ≡ false → holds J r.body ≡ true
    body f =
        holds_in J r.body
        (all_intro J r.body.pos (λ a m. is_true (λ x. true_false (or_left (any J r.body.neg) (or_right (J r.head) (any_intro (λ a. not (J a)) r.body.pos a m (not_intro x)))) f)))
        (all_intro (λ a. not (J a)) r.body.neg (λ a m. not_intro (is_false (λ t. true_false (or_right (J r.head || any (λ a. not (J a)) r.body.pos) (any_intro J r.body.neg a m t)) f))))

-- A state satisfies document 000's reduct just when the head of each rule whose body holds in both states is in.
pub models_out : (I J : State) (rs : List Rule) → all (satisfies J) (flp_reduct I rs) ≡ true
    → (r : Rule) → Memᴰ r rs → holds I r.body ≡ true → holds J r.body ≡ true → J r.head ≡ true
unfolding flp_reduct
models_out I J rs h r m i j = satisfies_out J r (all_at (satisfies J) (flp_reduct I rs) h r (filter_in (λ r. holds I r.body) rs r m i)) j

pub models_in : (I J : State) (rs : List Rule)
    → ((r : Rule) → Memᴰ r rs → holds I r.body ≡ true → holds J r.body ≡ true → J r.head ≡ true)
    → all (satisfies J) (flp_reduct I rs) ≡ true
unfolding flp_reduct
models_in I J rs h =
    all_intro (satisfies J) (flp_reduct I rs)
    (λ r m. let u = filter_out (λ r. holds I r.body) rs r m in satisfies_in J r (h r u.0 u.1))

-- The rule of a constraint for ⊥: where its body holds, the constraint's does and ⊥ is out.
bottom_out : (n : ℕ) (I : State) (b : Body) → holds I (bottom_rule n b).body ≡ true → (holds I b ≡ true) × (I n ≡ false)
unfolding bottom_rule outside
bottom_out n I b h =
    let e = rw (all_append (λ a. not (I a)) b.neg (n ∷ [])) at (holds_neg I (bottom_rule n b).body h) in
    let old = all (λ a. not (I a)) b.neg in
    let new = all (λ a. not (I a)) (n ∷ []) in
    (holds_in I b (holds_pos I (bottom_rule n b).body h) (and_left old new e), not_elim (all_at (λ a. not (I a)) (n ∷ []) (and_right old new e) n (Memᴰ.head refl)))

bottom_in : (n : ℕ) (I : State) (b : Body) → holds I b ≡ true → I n ≡ false → holds I (bottom_rule n b).body ≡ true
unfolding bottom_rule outside all
bottom_in n I b h f =
    holds_in I (bottom_rule n b).body (holds_pos I b h)
    (rw (all_append (λ a. not (I a)) b.neg (n ∷ [])) (and_intro (holds_neg I b h) (and_intro (not_intro f) refl)))

module _ (P : Program) where
  lawful_out : (X : State) → lawful P X ≡ true → (b : Body) → Memᴰ b P.constraints → holds X b ≡ false
  unfolding lawful
  lawful_out X l b m = not_elim (all_at (λ b. not (holds X b)) P.constraints l b m)

  -- A rule of the program in document 000's form is one of its rules, or a constraint's.
  pub from_rules : {C : Type 0} (r : Rule) → Memᴰ r (normal_rules P) → (Memᴰ r P.rules → C)
      → ((b : Body) → Memᴰ b P.constraints → bottom_rule P.atoms b ≡ r → C) → C
  unfolding normal_rules
  from_rules r m f g =
      ⊎_elim f (λ n. let u = Memᴰ.of_map (bottom_rule P.atoms) P.constraints n in g u.0 u.1 u.2) (Memᴰ.append_cases P.rules m)

  rule_in_lem : (r : Rule) → Memᴰ r P.rules → Memᴰ r (normal_rules P)
  unfolding normal_rules
  rule_in_lem r m = Memᴰ.append_left (map (bottom_rule P.atoms) P.constraints) m

  constraint_in : (b : Body) → Memᴰ b P.constraints → Memᴰ (bottom_rule P.atoms b) (normal_rules P)
  unfolding normal_rules
  constraint_in b m = Memᴰ.append_right P.rules (Memᴰ.map (bottom_rule P.atoms) m)

module _ (P : Program) (w : well_formed P ≡ true) (X : State) where
  stable_path : StableModel P X → X ≡ derived P X
  stable_path S = fun_ext S.fixpoint

  pub stable_closed : StableModel P X → Closed (next P X) X
  stable_closed S = subst (Closed (next P X)) (sym (stable_path S)) (derived_least P w X).closed

  stable_model : StableModel P X → (r : Rule) → Memᴰ r (normal_rules P) → holds X r.body ≡ true → X r.head ≡ true
  stable_model S r m h =
      from_rules P r m
      (λ n. stable_closed S r.head (fires_in P.rules X X r.head (record { rule = r; stands = n; head = refl; negatives = holds_neg X r.body h; positives = holds_pos X r.body h })))
      (λ b n e. absurd (true_false (bottom_out P.atoms X b (ap (λ (r : Rule). holds X r.body) e ∙ h)).0 (lawful_out P X S.obeys b n)))

  stable_minimal : StableModel P X → (J : State) → Inside J X → all (satisfies J) (flp_reduct X (normal_rules P)) ≡ true → Inside X J
  stable_minimal S J i s a e = (derived_least P w X).least J closed a (sym (S.fixpoint a) ∙ e)
    where
      closed : Closed (next P X) J
      closed c d =
          let h = fires_out P.rules X J c d in
          let below = all_mono J X h.rule.body.pos i h.positives in
          subst (λ x. J x ≡ true) h.head
          (models_out X J (normal_rules P) s h.rule (rule_in_lem P h.rule h.stands) (holds_in X h.rule.body below h.negatives)
          (holds_in J h.rule.body h.positives (outside_less J X i h.rule.body.neg h.negatives)))

  pub stable_answer : StableModel P X → IsAnswerSet P X
  stable_answer S =
      record {
        within = λ a e. let l = S.within a e in omega arith;
        model = models_in X X (normal_rules P) (λ r m h _. stable_model S r m h);
        minimal = stable_minimal S;
      }

  module _ (A : IsAnswerSet P X) where
    model_at : (r : Rule) → Memᴰ r (normal_rules P) → holds X r.body ≡ true → X r.head ≡ true
    model_at r m h = models_out X X (normal_rules P) A.model r m h h

    -- ⊥ is in no answer set: without it the state satisfies the reduct too.
    pub bottom_free : X P.atoms ≡ false
    unfolding bottom_rule
    bottom_free = is_false (λ t. true_false (eq-eqb P.atoms P.atoms refl) (not_elim (and_right (X P.atoms) (not (eqb P.atoms P.atoms)) (A.minimal without less satisfied P.atoms t))))
      where
        without : State
        without a = X a && not (eqb a P.atoms)

        less : Inside without X
        less a e = and_left (X a) (not (eqb a P.atoms)) e

        satisfied : all (satisfies without) (flp_reduct X (normal_rules P)) ≡ true
        satisfied =
            models_in X without (normal_rules P)
            (λ r m h _. from_rules P r m
            (λ n. and_intro (model_at r m h) (not_intro (ne_eqb r.head P.atoms (λ q. let l = head_below P w r n in omega arith))))
            (λ b n e. let u = bottom_out P.atoms X b (ap (λ (r : Rule). holds X r.body) e ∙ h) in absurd (true_false (model_at (bottom_rule P.atoms b) (constraint_in P b n) (bottom_in P.atoms X b u.0 u.1)) u.1)))

    lawful_in : lawful P X ≡ true
    unfolding lawful bottom_rule
    lawful_in =
        all_intro (λ b. not (holds X b)) P.constraints
        (λ b m. not_intro (is_false (λ t. true_false (model_at (bottom_rule P.atoms b) (constraint_in P b m) (bottom_in P.atoms X b t bottom_free)) bottom_free)))

    closed_in : Closed (next P X) X
    closed_in a e =
        let h = fires_out P.rules X X a e in
        subst (λ x. X x ≡ true) h.head (model_at h.rule (rule_in_lem P h.rule h.stands) (holds_in X h.rule.body h.positives h.negatives))

    derived_in_lem : Inside (derived P X) X
    derived_in_lem = (derived_least P w X).least X closed_in

    derived_models : all (satisfies (derived P X)) (flp_reduct X (normal_rules P)) ≡ true
    derived_models =
        models_in X (derived P X) (normal_rules P)
        (λ r m h d. from_rules P r m
        (λ n. (derived_least P w X).closed r.head (fires_in P.rules X (derived P X) r.head (record { rule = r; stands = n; head = refl; negatives = holds_neg X r.body h; positives = holds_pos (derived P X) r.body d })))
        (λ b n e. absurd (true_false (bottom_out P.atoms X b (ap (λ (r : Rule). holds X r.body) e ∙ h)).0 (lawful_false b n))))
      where
        lawful_false : (b : Body) → Memᴰ b P.constraints → holds X b ≡ false
        lawful_false = lawful_out P X lawful_in

    pub answer_stable : StableModel P X
    answer_stable =
        record {
          within = λ a e. let l = A.within a e in let ne : a ≡ P.atoms → ⊥ = λ q. true_false e (ap X q ∙ bottom_free) in omega arith;
          fixpoint = λ a. bool_ext (A.minimal (derived P X) derived_in_lem derived_models a) (derived_in_lem a);
          obeys = lawful_in;
        }

  -- The two definitions agree.
  pub stable_iff_answer : StableModel P X ↔ IsAnswerSet P X
  stable_iff_answer = (stable_answer, answer_stable)

  -- The test for a set of the program's atoms.
  pub test_in : StableModel P X → is_stable P X ≡ true
  unfolding is_stable
  test_in S = and_intro (all_intro (λ a. beq (X a) (derived P X a)) (range 0 P.atoms) (λ a m. beq_in (X a) (derived P X a) (S.fixpoint a))) S.obeys

  pub test_out : ((a : ℕ) → X a ≡ true → a < P.atoms) → is_stable P X ≡ true → StableModel P X
  unfolding is_stable
  test_out within t =
      record { within = within; fixpoint = fixpoint; obeys = and_right (all agree (range 0 P.atoms)) (lawful P X) t }
    where
      agree : ℕ → Bool
      agree a = beq (X a) (derived P X a)

      same : (a : ℕ) → a < P.atoms → X a ≡ derived P X a
      same a l =
          beq_out (X a) (derived P X a)
          (all_at agree (range 0 P.atoms) (and_left (all agree (range 0 P.atoms)) (lawful P X) t) a (range_in 0 P.atoms a (omega arith) (omega arith)))

      fixpoint : (a : ℕ) → X a ≡ derived P X a
      fixpoint a = bool_ext (λ e. sym (same a (within a e)) ∙ e) (λ e. same a (derived_within P w X a e) ∙ e)
