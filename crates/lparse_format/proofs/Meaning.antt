-- The stable models of a sheet's program in the format are the states that are stable by the free rules, each atom two higher.
use mathlib.Core.Bool.{Bool, true, false, not, ◌&&◌, ◌||◌, false≢true, or-false, and-true, and-false, and_comm}
use mathlib.Core.List.Memᴰ
use mathlib.Core.List.{List, [], ◌∷◌, map, flat_map, Memᴰ}
use mathlib.Core.Logic.{⊎_elim}
use mathlib.Core.Path.{◌≡◌, refl, sym, ◌∙◌, ap, subst, fun_ext}
use Prim.Native.Nat.{ℕ, zero, suc, ◌<◌}
use native.Mathlib.Omega.{arith}
use borrow.Author.Tests.{eqb-true, eq-eqb, ltb-true, lt-ltb, ne_eqb}
use lib.Dec.{eqb, ltb}
use lib.ListN.{length, length-map}
use Rattle.lists.specs.Lists.{all, any, filter}
use Rattle.lists.proofs.Bools.{by_bool, true_false, is_false, bool_ext, and_intro, and_left, or_cases, not_intro, not_elim}
use Rattle.lists.proofs.Members.{all_at, all_intro, all_map, any_at, any_intro, any_flat_map, any_cong, any_filter, any_map}
use Rattle.lists.proofs.Nodup.{nodup_map}
use Rattle.asp.specs.Program.{Body, State, outside, holds}
use Rattle.asp.specs.LeastModel.{Definite, consequences, Inside}
use Rattle.asp.specs.Least.{Closed, Least}
use Rattle.asp.specs.StableModel.{StableModel, definite}
use Rattle.asp.specs.Count.{Enumerates, count}
use Rattle.asp.proofs.Same.{stable_answer, answer_stable}
use Rattle.search.specs.inner.Decided.{CountRule, applies}
use Rattle.search.proofs.Branching.{StableBy, stable_by_in, stable_by_out, fires_out}
use Rattle.sheet.specs.Format.{kind_fits}
use Rattle.sheet.specs.Sheet.{Record, constraints_of, program_of}
use Rattle.sheet.specs.inner.Walk.{Sound, AllSound}
use Rattle.choice.specs.Written.{projected, ProjectedAnswerSet}
use Rattle.choice.specs.inner.FreeRules.{is_rule, count_rule, free_rules}
use Rattle.choice.proofs.Expanded.{expanded_formed}
use Rattle.choice.proofs.Unique.{written_within, written_whole, written_decide}
use Rattle.choice.proofs.Meaning.{freely, free_head, cut_stable, stable_lift}
use Rattle.choice.proofs.Number.{count_written}
use Rattle.lparse_format.specs.Program.{basic, choice, LparseProgram, lparse_atom, lparse_body, lparse_rule, lparse_program}
use Rattle.lparse_format.specs.Meaning.{rule_reduct, LparseModel, written_part, SameModels}

-- The atoms of the format as written atoms: a is in where a + 2 was.
abbrev down : State → State
down Y a = Y (lparse_atom a)

-- The test of a consequence: the rule's head is b and its atoms are in Z.
abbrev gives : State → ℕ → Definite → Bool
gives Z b d = eqb d.head b && all Z d.pos

-- A rule of the reduct gives b.
module _ (Y Z : State) (h b : ℕ) (B : Body) where
  basic_gives : any (gives Z b) (rule_reduct Y (basic h (lparse_body B))) ≡ (outside (down Y) B.neg && (eqb h b && all (down Z) B.pos))
  unfolding rule_reduct lparse_body outside any
  basic_gives =
      rw (all_map (λ a. not (Y a)) lparse_atom B.neg)
      (by_bool (outside (down Y) B.neg) (λ t. rw (t, all_map Z lparse_atom B.pos) (or-false (eqb h b && all (down Z) B.pos))) (λ f. rw f refl))

  choice_gives : any (gives Z b) (rule_reduct Y (choice (h ∷ []) (lparse_body B))) ≡ (outside (down Y) B.neg && Y h && (eqb h b && all (down Z) B.pos))
  unfolding rule_reduct lparse_body outside any filter
  choice_gives =
      rw (all_map (λ a. not (Y a)) lparse_atom B.neg)
      (by_bool (outside (down Y) B.neg) (λ t. rw t (by_bool (Y h) (λ y. rw (y, all_map Z lparse_atom B.pos) (or-false (eqb h b && all (down Z) B.pos))) (λ y. rw y refl))) (λ f. rw f refl))

-- The three kinds of a sound record.
pub by_kind : {C : Type 0} (n : ℕ) (r : Record) → Sound n r → (r.kind ≡ 0 → C) → (r.kind ≡ 1 → C) → (r.kind ≡ 2 → C) → C
unfolding kind_fits
by_kind n r S f g h =
    let rule = eqb r.kind 0 && ltb r.head n in
    let constraint = eqb r.kind 1 && eqb r.head 0 in
    ⊎_elim
    (λ u. ⊎_elim (λ t. f (eqb-true r.kind 0 (and_left (eqb r.kind 0) (ltb r.head n) t))) (λ t. g (eqb-true r.kind 1 (and_left (eqb r.kind 1) (eqb r.head 0) t)))
    (or_cases rule constraint u))
    (λ t. h (eqb-true r.kind 2 (and_left (eqb r.kind 2) (ltb r.head n) t))) (or_cases (rule || constraint) (eqb r.kind 2 && ltb r.head n) S.kinds)

eqb_atoms : (h a : ℕ) → eqb (lparse_atom h) (lparse_atom a) ≡ eqb h a
eqb_atoms h a = bool_ext (λ t. let e = eqb-true (lparse_atom h) (lparse_atom a) t in eq-eqb h a (omega arith)) (λ t. let e = eqb-true h a t in eq-eqb (lparse_atom h) (lparse_atom a) (omega arith))

-- A rule with another head does not give b.
other_head : (o p : Bool) (h b : ℕ) → (h ≡ b → ⊥) → (o && (eqb h b && p)) ≡ false
other_head o p h b ne = rw (ne_eqb h b ne) (and-false o)

-- The rule of a record gives a + 2 where its free rule gives a, 1 where it is a constraint whose body holds, and never 0.
module _ (n : ℕ) (r : Record) (S : Sound n r) (Y : State) where
  gives_written : (Z : State) (a : ℕ) → any (gives Z (lparse_atom a)) (rule_reduct Y (lparse_rule r))
      ≡ (is_rule r && (applies (down Y) (count_rule r) && (eqb r.head a && all (down Z) r.body.pos)))
  unfolding lparse_rule
  gives_written Z a =
      by_kind n r S
      (λ k. rw k (rw (basic_gives, eqb_atoms, and-true) refl))
      (λ k. rw k (rw basic_gives (other_head (outside (down Y) r.body.neg) (all (down Z) r.body.pos) 1 (lparse_atom a) (λ e. omega arith))))
      (λ k. rw k (rw (choice_gives, eqb_atoms) refl))

  gives_one : any (gives Y 1) (rule_reduct Y (lparse_rule r)) ≡ (eqb r.kind 1 && holds (down Y) r.body)
  unfolding lparse_rule holds
  gives_one =
      let h = lparse_atom r.head in
      let o = outside (down Y) r.body.neg in
      let p = all (down Y) r.body.pos in
      by_kind n r S (λ k. rw k (rw basic_gives (other_head o p h 1 (λ e. omega arith)))) (λ k. rw k (rw basic_gives (and_comm o p)))
      (λ k. rw k (rw choice_gives (other_head (o && Y h) p h 1 (λ e. omega arith))))

  gives_zero : (Z : State) → any (gives Z 0) (rule_reduct Y (lparse_rule r)) ≡ false
  unfolding lparse_rule
  gives_zero Z =
      let h = lparse_atom r.head in
      let o = outside (down Y) r.body.neg in
      let p = all (down Z) r.body.pos in
      by_kind n r S (λ k. rw k (rw basic_gives (other_head o p h 0 (λ e. omega arith)))) (λ k. rw k (rw basic_gives (other_head o p 1 0 (λ e. omega arith))))
      (λ k. rw k (rw choice_gives (other_head (o && Y h) p h 0 (λ e. omega arith))))

-- A set of the format's atoms: 1 is in or not, 0 is out, and a + 2 is in where a is.
raised : Bool → State → State
raised one X zero = false
raised one X (suc zero) = one
raised one X (suc (suc a)) = X a

raised_atom : (one : Bool) (X : State) (a : ℕ) → raised one X (lparse_atom a) ≡ X a
unfolding raised
raised_atom one X a = ap (raised one X) (let e : lparse_atom a ≡ suc (suc a) = omega arith in e)

-- Every atom is 0, 1 or a + 2.
by_atom : (C : ℕ → Type 0) → C 0 → C 1 → ((a : ℕ) → C (lparse_atom a)) → (b : ℕ) → C b
by_atom C none one written zero = none
by_atom C none one written (suc zero) = one
by_atom C none one written (suc (suc a)) = subst C (let e : lparse_atom a ≡ suc (suc a) = omega arith in e) (written a)

module _ (n : ℕ) (rs : List Record) (A : AllSound n rs) where
  -- The consequences of the reduct by Y.
  abbrev step : State → State → State
  step Y = consequences (flat_map (rule_reduct Y) (map lparse_rule rs))

  step_any : (Y Z : State) (b : ℕ) → step Y Z b ≡ any (λ r. any (gives Z b) (rule_reduct Y (lparse_rule r))) rs
  unfolding consequences
  step_any Y Z b = any_flat_map (gives Z b) (rule_reduct Y) (map lparse_rule rs) ∙ any_map (λ q. any (gives Z b) (rule_reduct Y q)) lparse_rule rs

  step_written : (Y Z : State) (a : ℕ) → step Y Z (lparse_atom a) ≡ freely rs (down Y) (down Z) a
  unfolding consequences free_rules definite
  step_written Y Z a =
      step_any Y Z (lparse_atom a)
      ∙ any_cong (λ r. any (gives Z (lparse_atom a)) (rule_reduct Y (lparse_rule r))) (λ r. is_rule r && (applies (down Y) (count_rule r) && test (count_rule r))) rs
      (λ r m. gives_written n r (A r m) Y Z a)
      ∙ sym (any_map (gives (down Z) a) (λ (c : CountRule). definite c.rule) (filter (applies (down Y)) (free_rules rs)) ∙ any_filter test (applies (down Y)) (free_rules rs)
      ∙ any_map (λ c. applies (down Y) c && test c) count_rule (filter is_rule rs) ∙ any_filter (λ r. applies (down Y) (count_rule r) && test (count_rule r)) is_rule rs)
    where
      test : CountRule → Bool
      test c = gives (down Z) a (definite c.rule)

  step_one : (Y : State) → step Y Y 1 ≡ any (holds (down Y)) (constraints_of rs)
  unfolding constraints_of
  step_one Y =
      step_any Y Y 1 ∙ any_cong (λ r. any (gives Y 1) (rule_reduct Y (lparse_rule r))) (λ r. eqb r.kind 1 && holds (down Y) r.body) rs (λ r m. gives_one n r (A r m) Y)
      ∙ sym (any_map (holds (down Y)) (λ (r : Record). r.body) (filter (λ r. eqb r.kind 1) rs) ∙ any_filter (λ r. holds (down Y) r.body) (λ r. eqb r.kind 1) rs)

  step_zero : (Y Z : State) → step Y Z 0 ≡ true → ⊥
  step_zero Y Z e =
      let u = any_at (λ r. any (gives Z 0) (rule_reduct Y (lparse_rule r))) rs (sym (step_any Y Z 0) ∙ e) in
      true_false u.2 (gives_zero n u.0 (A u.0 u.1) Y Z)

  abbrev E : LparseProgram
  E = lparse_program n rs

  abbrev Settled : State → Type 0
  Settled = StableBy n (free_rules rs) (free_head n rs A) (constraints_of rs)

  -- A stable model of E: 0 and 1 are out, and the others are stable by the free rules.
  record Raised (Y : State) : Type 0 where
    no_zero : Y 0 ≡ false
    no_one : Y 1 ≡ false
    settled : Settled (down Y)

  module _ (Y : State) (M : LparseModel E Y) where
    abbrev X : State
    X = down Y

    model_least : Least (step Y) Y
    unfolding lparse_program
    model_least = M.least

    model_one : Y 1 ≡ false
    unfolding outside lparse_program
    model_one = not_elim (all_at (λ a. not (Y a)) (1 ∷ []) M.minus 1 (Memᴰ.head refl))

    -- What is closed under the free rules, with 1, is closed under the reduct.
    model_inside : (Z : State) → Closed (freely rs X) Z → Inside Y (raised true Z)
    unfolding raised
    model_inside Z c =
        model_least.least (raised true Z)
        (by_atom (λ b. step Y (raised true Z) b ≡ true → raised true Z b ≡ true) (λ e. absurd (step_zero Y (raised true Z) e)) (λ e. refl)
        (λ a e. raised_atom true Z a ∙ c a (subst (λ W. freely rs X W a ≡ true) (fun_ext (raised_atom true Z)) (sym (step_written Y (raised true Z) a) ∙ e))))

    model_least_free : (Z : State) → Closed (freely rs X) Z → Inside X Z
    model_least_free Z c a e = sym (raised_atom true Z a) ∙ model_inside Z c (lparse_atom a) e

    heads_below : Closed (freely rs X) (λ a. ltb a n)
    heads_below a e =
        let F = fires_out (applies X) (free_rules rs) (λ a. ltb a n) a e in
        lt-ltb a n (subst (λ b. b < n) F.head (free_head n rs A F.rule F.stands))

    model_raised : Raised Y
    unfolding raised
    model_raised =
        record {
          no_zero = is_false (λ e. false≢true (model_inside (λ a. ltb a n) heads_below 0 e));
          no_one = model_one;
          settled = record {
            within = λ a e. ltb-true a n (model_least_free (λ a. ltb a n) heads_below a e);
            least = record { closed = λ a e. model_least.closed (lparse_atom a) (step_written Y Y a ∙ e); least = model_least_free };
            lawful = all_intro (λ b. not (holds X b)) (constraints_of rs) (λ b m. not_intro (is_false (λ t.
                true_false (model_least.closed 1 (step_one Y ∙ any_intro (holds X) (constraints_of rs) b m t)) model_one)));
          };
        }

  raised_model : (Y : State) → Raised Y → LparseModel E Y
  unfolding lparse_program outside all
  raised_model Y R =
      record {
        least = record {
          closed = by_atom (λ b. step Y Y b ≡ true → Y b ≡ true) (λ e. absurd (step_zero Y Y e)) (λ e. absurd (unbroken (sym (step_one Y) ∙ e)))
              (λ a e. R.settled.least.closed a (sym (step_written Y Y a) ∙ e));
          least = λ Z c. by_atom (λ b. Y b ≡ true → Z b ≡ true) (λ e. absurd (true_false e R.no_zero)) (λ e. absurd (true_false e R.no_one))
              (R.settled.least.least (down Z) (λ a e. c (lparse_atom a) (step_written Y Z a ∙ e)));
        };
        plus = refl;
        minus = and_intro (not_intro R.no_one) refl;
      }
    where
      unbroken : any (holds (down Y)) (constraints_of rs) ≡ true → ⊥
      unbroken e =
          let u = any_at (holds (down Y)) (constraints_of rs) e in
          true_false u.2 (not_elim (all_at (λ b. not (holds (down Y) b)) (constraints_of rs) R.settled.lawful u.0 u.1))

  -- The written part of a stable model is all of its atoms.
  written_all : (Y : State) → Raised Y → written_part n Y ≡ down Y
  unfolding written_part projected
  written_all Y R = written_whole n (down Y) R.settled.within

  models_project : (Y : State) → LparseModel E Y → (X : State) × StableModel (program_of n rs) X × (written_part n Y ≡ projected n X)
  models_project Y M =
      let R = model_raised Y M in
      let u = stable_lift n rs A (down Y) R.settled.within (stable_by_in n (free_rules rs) (free_head n rs A) (constraints_of rs) (down Y) R.settled) in
      (u.0, u.1, written_all Y R ∙ sym u.2)

  models_lift : (X : State) → StableModel (program_of n rs) X → (Y : State) × LparseModel E Y × (written_part n Y ≡ projected n X)
  unfolding raised
  models_lift X S = (Y, raised_model Y R, written_all Y R ∙ same)
    where
      Y : State
      Y = raised false (projected n X)

      same : down Y ≡ projected n X
      same = fun_ext (raised_atom false (projected n X))

      R : Raised Y
      R =
          record {
            no_zero = refl;
            no_one = refl;
            settled = subst Settled (sym same) (stable_by_out n (free_rules rs) (free_head n rs A) (constraints_of rs) (projected n X) (written_within n X) (cut_stable n rs A X S));
          }

  models_differ : (Y Y' : State) → LparseModel E Y → LparseModel E Y' → written_part n Y ≡ written_part n Y' → Y ≡ Y'
  models_differ Y Y' M M' e =
      fun_ext (by_atom (λ b. Y b ≡ Y' b) (R.no_zero ∙ sym R'.no_zero) (R.no_one ∙ sym R'.no_one) (λ a. ap (λ (X : State). X a) (sym (written_all Y R) ∙ e ∙ written_all Y' R')))
    where
      R : Raised Y
      R = model_raised Y M

      R' : Raised Y'
      R' = model_raised Y' M'

  -- The written parts of a list of the stable models of E are a list of the cuts of answer sets.
  models_number : (L : List State) → Enumerates (LparseModel E) L → length L ≡ count (program_of n rs)
  models_number L N = sym (length-map L (written_part n)) ∙ count_written n rs A (map (written_part n) L) listed
    where
      listed : Enumerates (ProjectedAnswerSet n (program_of n rs)) (map (written_part n) L)
      listed =
          let w = expanded_formed n rs A in
          record {
            distinct = nodup_map (written_part n) L (λ Y Y' m k. models_differ Y Y' (N.sound Y m) (N.sound Y' k)) N.distinct;
            sound = λ Z m. let u = Memᴰ.of_map (written_part n) L m in
                let v = models_project u.0 (N.sound u.0 u.1) in
                (v.0, stable_answer (program_of n rs) w v.0 v.1, sym v.2 ∙ u.2);
            complete = λ Z u. let v = models_lift u.0 (answer_stable (program_of n rs) w u.0 u.1) in
                subst (λ Z. Memᴰ Z (map (written_part n) L)) (v.2 ∙ u.2) (Memᴰ.map (written_part n) (N.complete v.0 v.1));
          }

  pub same_models : SameModels n (program_of n rs) E
  same_models =
      record { projects = models_project; lifts = models_lift; one_each = models_differ; one_stable = written_decide n rs A; counted = models_number }
