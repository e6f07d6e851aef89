-- An atom of an answer set heads a rule of its reduct, so it occurs in the program.
use mathlib.Core.Bool.{Bool, true, ◌&&◌, ◌||◌}
use mathlib.Core.List.Memᴰ
use mathlib.Core.List.{List, Memᴰ}
use mathlib.Core.Logic.{◌⊎◌, inl, inr, ⊎_elim, ◌↔◌}
use mathlib.Core.Path.{◌≡◌, refl, sym, ◌∙◌, ap, subst}
use Prim.Native.Nat.{ℕ, suc, ◌<◌}
use native.Mathlib.Omega.{arith}
use borrow.Author.Tests.{eqb-true, eq-eqb}
use lib.Dec.{eqb}
use lib.ListN.{length}
use Rattle.lists.specs.Lists.{all, any, member}
use Rattle.lists.proofs.Bools.{true_false, and_intro, and_left, and_right, or_cases, or_left}
use Rattle.lists.proofs.Members.{any_at, any_intro, filter_in, filter_out, member_out}
use Rattle.asp.specs.Program.{Body, Rule, Program, State, holds, well_formed}
use Rattle.asp.specs.AnswerSet.{satisfies, flp_reduct, AnswerSet, bottom_rule, normal_rules, IsAnswerSet, occurring, OccurringAnswerSet}
use Rattle.asp.specs.Count.{count, Enumerates}
use Rattle.asp.proofs.Derived.{head_below, rule_atoms, constraint_atoms}
use Rattle.asp.proofs.Same.{models_out, models_in, from_rules, bottom_free}
use Rattle.asp.proofs.Counted.{count_answer_sets}

-- The rule has the head a.
heads : ℕ → Rule → Bool
heads a r = eqb r.head a

-- Of an answer set, the heads of its reduct are a model of the reduct already.
pub answer_head : (n : ℕ) (rs : List Rule) (I : State) → AnswerSet n rs I → (a : ℕ) → I a ≡ true
    → (r : Rule) × Memᴰ r rs × (r.head ≡ a) × (holds I r.body ≡ true)
unfolding heads flp_reduct
answer_head n rs I A a e =
    let u = any_at (heads a) (flp_reduct I rs) (and_right (I a) (headed a) (A.minimal smaller (λ b t. and_left (I b) (headed b) t) models a e)) in
    let v = filter_out (λ r. holds I r.body) rs u.0 u.1 in
    (u.0, v.0, eqb-true u.0.head a u.2, v.1)
  where
    headed : State
    headed b = any (heads b) (flp_reduct I rs)

    smaller : State
    smaller b = I b && headed b

    models : all (satisfies smaller) (flp_reduct I rs) ≡ true
    models =
        models_in I smaller rs (λ r m h _.
        and_intro (models_out I I rs A.model r m h h)
        (any_intro (heads r.head) (flp_reduct I rs) r (filter_in (λ r. holds I r.body) rs r m h) (eq-eqb r.head r.head refl)))

-- A variable that occurs heads a rule or stands in its body.
occurring_out : {C : Type 0} (rs : List Rule) (a : ℕ) → occurring rs a ≡ true
    → ((r : Rule) → Memᴰ r rs → r.head ≡ a → C) → ((r : Rule) → Memᴰ r rs → Memᴰ a r.body.pos ⊎ Memᴰ a r.body.neg → C) → C
unfolding occurring
occurring_out rs a e f g =
    let u = any_at (λ (r : Rule). eqb r.head a || member a r.body.pos || member a r.body.neg) rs e in
    let r = u.0 in
    ⊎_elim
    (λ k. ⊎_elim (λ q. f r u.1 (eqb-true r.head a q)) (λ q. g r u.1 (inl (member_out a r.body.pos q)))
    (or_cases (eqb r.head a) (member a r.body.pos) k))
    (λ q. g r u.1 (inr (member_out a r.body.neg q)))
    (or_cases (eqb r.head a || member a r.body.pos) (member a r.body.neg) u.2)

head_occurs : (rs : List Rule) (a : ℕ) (r : Rule) → Memᴰ r rs → r.head ≡ a → occurring rs a ≡ true
unfolding occurring
head_occurs rs a r m e =
    any_intro (λ (r : Rule). eqb r.head a || member a r.body.pos || member a r.body.neg) rs r m
    (or_left (member a r.body.neg) (or_left (member a r.body.pos) (eq-eqb r.head a e)))

module _ (P : Program) (w : well_formed P ≡ true) where
  -- ⊥ is in no answer set, so the rule is no constraint's.
  pub atoms_heads : (X : State) → IsAnswerSet P X → (a : ℕ) → X a ≡ true → (r : Rule) × Memᴰ r P.rules × (r.head ≡ a) × (holds X r.body ≡ true)
  unfolding bottom_rule
  atoms_heads X A a e =
      let u = answer_head (suc P.atoms) (normal_rules P) X A a e in
      from_rules P u.0 u.1 (λ m. (u.0, m, u.2, u.3))
      (λ b m q. absurd (true_false e (ap X (sym (ap (λ (r : Rule). r.head) q ∙ u.2)) ∙ bottom_free P w X A)))

  -- The atoms of a constraint's rule: its own, and ⊥.
  bottom_atoms : (b : Body) → Memᴰ b P.constraints → (a : ℕ)
      → Memᴰ a (bottom_rule P.atoms b).body.pos ⊎ Memᴰ a (bottom_rule P.atoms b).body.neg → a < suc P.atoms
  unfolding bottom_rule
  bottom_atoms b m a =
      ⊎_elim (λ k. let l = constraint_atoms P w b m a (inl k) in omega arith)
      (λ k. ⊎_elim (λ j. let l = constraint_atoms P w b m a (inr j) in omega arith) (λ j. let e = Memᴰ.eq_of_singleton j in omega arith)
      (Memᴰ.append_cases b.neg k))

  occurring_below : (a : ℕ) → occurring (normal_rules P) a ≡ true → a < suc P.atoms
  unfolding bottom_rule
  occurring_below a e =
      occurring_out (normal_rules P) a e
      (λ r m q. from_rules P r m (λ n. let l = head_below P w r n in omega arith) (λ b n p. let h = ap (λ (r : Rule). r.head) p in omega arith))
      (λ r m k. from_rules P r m (λ n. let l = rule_atoms P w r n a k in omega arith)
      (λ b n p. bottom_atoms b n a (subst (λ (r : Rule). Memᴰ a r.body.pos ⊎ Memᴰ a r.body.neg) (sym p) k)))

  -- Over all atoms or over those that occur: the atoms of an answer set occur, and a smaller set has no others.
  answer_occurs : (X : State) → IsAnswerSet P X → OccurringAnswerSet (normal_rules P) X
  answer_occurs X A =
      record {
        within = λ a e. let u = answer_head (suc P.atoms) (normal_rules P) X A a e in head_occurs (normal_rules P) a u.0 u.1 u.2;
        model = A.model;
        minimal = λ J _. A.minimal J;
      }

  occurs_answer : (X : State) → OccurringAnswerSet (normal_rules P) X → IsAnswerSet P X
  occurs_answer X O =
      record {
        within = λ a e. occurring_below a (O.within a e);
        model = O.model;
        minimal = λ J i. O.minimal J (λ a e. O.within a (i a e)) i;
      }

  pub answer_iff_occurring : (X : State) → IsAnswerSet P X ↔ OccurringAnswerSet (normal_rules P) X
  answer_iff_occurring X = (answer_occurs X, occurs_answer X)

  pub count_occurring : (L : List State) → Enumerates (OccurringAnswerSet (normal_rules P)) L → length L ≡ count P
  count_occurring L E =
      count_answer_sets P w L
      (record { distinct = E.distinct; sound = λ X m. occurs_answer X (E.sound X m); complete = λ X A. E.complete X (answer_occurs X A) })
