-- Laws of counting by decisions: two bounds on every stable model that agrees, and the two ways to decide an atom.
use mathlib.Core.Bool.{Bool, true, false, not, ◌&&◌, ◌||◌, beq, and_assoc}
use mathlib.Core.List.Memᴰ
use mathlib.Core.List.Pairwise
use mathlib.Core.List.{List, [], ◌∷◌, map, Memᴰ}
use mathlib.Core.Logic.{◌⊎◌, inl, inr, ⊎_elim}
use mathlib.Core.Path.{◌≡◌, refl, sym, ◌∙◌, ap, subst, fun_ext}
use Prim.Native.Nat.{ℕ, ◌+◌, ◌<◌}
use native.Mathlib.Omega.{arith}
use borrow.Author.Tests.{eqb-true, eq-eqb}
use lib.Dec.{eqb}
use lib.ListN.{length}
use Rattle.lists.specs.Lists.{all, filter, range}
use Rattle.lists.proofs.Bools.{by_bool, true_false, is_false, bool_ext, and_intro, and_left, and_right, or_cases, or_left, or_right, not_intro, not_elim}
use Rattle.lists.proofs.Members.{all_at, all_intro, any_at, any_intro, filter_cong, filter_in, filter_none, filter_out, filter_parts, range_in, range_out}
use Rattle.lists.proofs.Nodup.{nodup_cons, nodup_filter, nodup_same}
use Rattle.asp.specs.Program.{Body, State, outside, holds}
use Rattle.asp.specs.LeastModel.{Definite, consequences, least_model, Inside}
use Rattle.asp.specs.Least.{Least}
use Rattle.asp.specs.StableModel.{definite}
use Rattle.asp.specs.Count.{with, states}
use Rattle.search.specs.inner.Decided.{CountRule, definites, applies, is_stable_by, agrees, surely, possibly, count_by}
use Rattle.asp.proofs.Rounds.{Operator, iterate_least, iterate_below}
use Rattle.asp.proofs.Same.{beq_in, beq_out}
use Rattle.asp.proofs.Counted.{states_within, states_all, states_distinct}

-- A definites rule fires for a from L.
pub record Fires (p : CountRule → Bool) (rs : List CountRule) (L : State) (a : ℕ) : Type 0 where
  pub rule : CountRule
  pub stands : Memᴰ rule rs
  pub passes : p rule ≡ true
  pub head : rule.rule.head ≡ a
  pub positives : all L rule.rule.body.pos ≡ true

module _ (p : CountRule → Bool) (rs : List CountRule) where
  pub fires_out : (L : State) (a : ℕ) → consequences (definites p rs) L a ≡ true → Fires p rs L a
  unfolding consequences definite
  fires_out L a e =
      let test : Definite → Bool = λ d. eqb d.head a && all L d.pos in
      let u = any_at test (definites p rs) e in
      let v = Memᴰ.of_map (λ (r : CountRule). definite r.rule) (filter p rs) u.1 in
      let w = filter_out p rs v.0 v.1 in
      let r = v.0.rule in
      let t : (eqb r.head a && all L r.body.pos) ≡ true = ap test v.2 ∙ u.2 in
      record {
        rule = v.0;
        stands = w.0;
        passes = w.1;
        head = eqb-true r.head a (and_left (eqb r.head a) (all L r.body.pos) t);
        positives = and_right (eqb r.head a) (all L r.body.pos) t;
      }

  pub fires_in : (L : State) (a : ℕ) → Fires p rs L a → consequences (definites p rs) L a ≡ true
  unfolding consequences definite
  fires_in L a F =
      any_intro (λ (d : Definite). eqb d.head a && all L d.pos) (definites p rs) (definite F.rule.rule)
      (Memᴰ.map (λ (r : CountRule). definite r.rule) (filter_in p rs F.rule F.stands F.passes))
      (and_intro (eq-eqb F.rule.rule.head a F.head) F.positives)

-- More rules, more consequences.
pub definites_more : (p q : CountRule → Bool) (rs : List CountRule) → ((r : CountRule) → Memᴰ r rs → p r ≡ true → q r ≡ true)
    → (L : State) → Inside (consequences (definites p rs) L) (consequences (definites q rs) L)
definites_more p q rs h L a e =
    let F = fires_out p rs L a e in
    fires_in q rs L a (record { rule = F.rule; stands = F.stands; passes = h F.rule F.stands F.passes; head = F.head; positives = F.positives })

-- Least sets of the same operator are the same.
least_same : (f : State → State) (L M : State) → Least f L → Least f M → L ≡ M
least_same f L M l m = fun_ext (λ a. bool_ext (l.least M m.closed a) (m.least L l.closed a))

-- Heads below n, so rounds give the least model.
module _ (n : ℕ) (rs : List CountRule) (low : (r : CountRule) → Memᴰ r rs → r.rule.head < n) where
  bounded_operator : (p : CountRule → Bool) → Operator n (consequences (definites p rs))
  bounded_operator p =
      record {
        mono = λ L M i a e. let F = fires_out p rs L a e in
            fires_in p rs M a (record {
              rule = F.rule;
              stands = F.stands;
              passes = F.passes;
              head = F.head;
              positives = all_intro M F.rule.rule.body.pos (λ b k. i b (all_at L F.rule.rule.body.pos F.positives b k));
            });
        bounded = λ L a e. let F = fires_out p rs L a e in subst (λ b. b < n) F.head (low F.rule F.stands);
      }

  definites_least : (p : CountRule → Bool) → Least (consequences (definites p rs)) (least_model n (definites p rs))
  unfolding least_model
  definites_least p = iterate_least n (consequences (definites p rs)) (bounded_operator p)

  definites_below : (p : CountRule → Bool) (a : ℕ) → least_model n (definites p rs) a ≡ true → a < n
  unfolding least_model
  definites_below p a e = iterate_below n (consequences (definites p rs)) (bounded_operator p) n a e

  module _ (cs : List Body) where
    -- What a stable model is known by.
    pub record StableBy (X : State) : Type 0 where
      pub within : (a : ℕ) → X a ≡ true → a < n
      pub least : Least (consequences (definites (applies X) rs)) X
      pub lawful : all (λ b. not (holds X b)) cs ≡ true

    pub stable_by_out : (X : State) → ((a : ℕ) → X a ≡ true → a < n) → is_stable_by n rs cs X ≡ true → StableBy X
    unfolding is_stable_by
    stable_by_out X within e =
        record {
          within = within;
          least = subst (Least (consequences (definites (applies X) rs))) (sym (fun_ext same)) (definites_least (applies X));
          lawful = and_right (all test (range 0 n)) (all (λ b. not (holds X b)) cs) e;
        }
      where
        test : ℕ → Bool
        test a = beq (X a) (least_model n (definites (applies X) rs) a)

        at_atom : (a : ℕ) → a < n → X a ≡ least_model n (definites (applies X) rs) a
        at_atom a l =
            beq_out (X a) (least_model n (definites (applies X) rs) a)
            (all_at test (range 0 n) (and_left (all test (range 0 n)) (all (λ b. not (holds X b)) cs) e) a (range_in 0 n a (omega arith) (omega arith)))

        same : (a : ℕ) → X a ≡ least_model n (definites (applies X) rs) a
        same a = bool_ext (λ x. sym (at_atom a (within a x)) ∙ x) (λ d. at_atom a (definites_below (applies X) a d) ∙ d)

    pub stable_by_in : (X : State) → StableBy X → is_stable_by n rs cs X ≡ true
    unfolding is_stable_by
    stable_by_in X S =
        let same = least_same (consequences (definites (applies X) rs)) X (least_model n (definites (applies X) rs)) S.least (definites_least (applies X)) in
        and_intro (all_intro (λ a. beq (X a) (least_model n (definites (applies X) rs) a)) (range 0 n) (λ a _. beq_in (X a) (least_model n (definites (applies X) rs) a) (ap (λ (Y : State). Y a) same)))
        S.lawful

-- Decisions.
pub agree_in : (n : ℕ) (i o X : State) → agrees n i o X ≡ true → (a : ℕ) → a < n → i a ≡ true → X a ≡ true
unfolding agrees
agree_in n i o X e a l t =
    let u = all_at (λ a. (not (i a) || X a) && (not (o a) || not (X a))) (range 0 n) e a (range_in 0 n a (omega arith) (omega arith)) in
    ⊎_elim (λ f. absurd (true_false t (not_elim f))) (λ x. x) (or_cases (not (i a)) (X a) (and_left (not (i a) || X a) (not (o a) || not (X a)) u))

pub agree_out : (n : ℕ) (i o X : State) → agrees n i o X ≡ true → (a : ℕ) → a < n → o a ≡ true → X a ≡ false
unfolding agrees
agree_out n i o X e a l t =
    let u = all_at (λ a. (not (i a) || X a) && (not (o a) || not (X a))) (range 0 n) e a (range_in 0 n a (omega arith) (omega arith)) in
    ⊎_elim (λ f. absurd (true_false t (not_elim f))) (λ x. not_elim x) (or_cases (not (o a)) (not (X a)) (and_right (not (i a) || X a) (not (o a) || not (X a)) u))

pub agree_make : (n : ℕ) (i o X : State) → ((a : ℕ) → a < n → i a ≡ true → X a ≡ true) → ((a : ℕ) → a < n → o a ≡ true → X a ≡ false) → agrees n i o X ≡ true
unfolding agrees
agree_make n i o X f g =
    all_intro (λ a. (not (i a) || X a) && (not (o a) || not (X a))) (range 0 n) (λ a m.
    let r = range_out 0 n a m in
    let l : a < n = omega (arith, r.high) in
    and_intro (by_bool (i a) (λ t. or_right (not (i a)) (f a l t)) (λ e. or_left (X a) (not_intro e)))
    (by_bool (o a) (λ t. or_right (not (o a)) (not_intro (g a l t))) (λ e. or_left (not (X a)) (not_intro e))))

module _ (n : ℕ) (rs : List CountRule) (low : (r : CountRule) → Memᴰ r rs → r.rule.head < n)
    (neg_low : (r : CountRule) → Memᴰ r rs → (a : ℕ) → Memᴰ a r.rule.body.neg → a < n) (cs : List Body) (i o : State) where
  abbrev Fits : State → Type 0
  Fits X = StableBy n rs low cs X

  -- A rule that surely applies does, and one that does possibly does.
  pub sure_applies : (X : State) → agrees n i o X ≡ true → (r : CountRule) → Memᴰ r rs → surely i o r ≡ true → applies X r ≡ true
  unfolding outside
  sure_applies X g r m e =
      let neg = r.rule.body.neg in
      let h = r.rule.head in
      and_intro (all_intro (λ a. not (X a)) neg (λ a k. not_intro (agree_out n i o X g a (neg_low r m a k) (all_at o neg (and_left (all o neg) (not r.free || i h) e) a k))))
      (⊎_elim (λ f. or_left (X h) f) (λ t. or_right (not r.free) (agree_in n i o X g h (low r m) t)) (or_cases (not r.free) (i h) (and_right (all o neg) (not r.free || i h) e)))

  applies_possible : (X : State) → agrees n i o X ≡ true → (r : CountRule) → Memᴰ r rs → applies X r ≡ true → possibly i o r ≡ true
  unfolding outside
  applies_possible X g r m e =
      let neg = r.rule.body.neg in
      let h = r.rule.head in
      let x = and_left (all (λ a. not (X a)) neg) (not r.free || X h) e in
      and_intro (all_intro (λ a. not (i a)) neg (λ a k. not_intro (is_false (λ t. true_false (agree_in n i o X g a (neg_low r m a k) t) (not_elim (all_at (λ a. not (X a)) neg x a k))))))
      (⊎_elim (λ f. or_left (not (o h)) f) (λ t. or_right (not r.free) (not_intro (is_false (λ q. true_false t (agree_out n i o X g h (low r m) q)))))
      (or_cases (not r.free) (X h) (and_right (all (λ a. not (X a)) neg) (not r.free || X h) e)))

  -- The two bounds.
  lower_inside : (L X : State) → Least (consequences (definites (surely i o) rs)) L → Fits X → agrees n i o X ≡ true → Inside L X
  lower_inside L X B S g =
      B.least X (λ a e. S.least.closed a (definites_more (surely i o) (applies X) rs (sure_applies X g) X a e))

  pub upper_inside : (U X : State) → Least (consequences (definites (possibly i o) rs)) U → Fits X → agrees n i o X ≡ true → Inside X U
  upper_inside U X B S g =
      S.least.least U (λ a e. B.closed a (definites_more (applies X) (possibly i o) rs (applies_possible X g) U a e))

  -- The states that are counted.
  counted_out : (X : State) → Memᴰ X (states n) → (is_stable_by n rs cs X && agrees n i o X) ≡ true → Fits X × (agrees n i o X ≡ true)
  counted_out X m e =
      (stable_by_out n rs low cs X (states_within n X m) (and_left (is_stable_by n rs cs X) (agrees n i o X) e), and_right (is_stable_by n rs cs X) (agrees n i o X) e)

  pub none_counted : ((X : State) → Fits X → agrees n i o X ≡ true → ⊥) → count_by n rs cs i o ≡ 0
  unfolding count_by
  none_counted h = ap length (filter_none (λ X. is_stable_by n rs cs X && agrees n i o X) (states n) (λ X m. is_false (λ e. let u = counted_out X m e in h X u.0 u.1)))

  pub clash_lower : (L : State) → Least (consequences (definites (surely i o) rs)) L → (a : ℕ) → a < n → L a ≡ true → o a ≡ true → count_by n rs cs i o ≡ 0
  clash_lower L B a l t q = none_counted (λ X S g. true_false (lower_inside L X B S g a t) (agree_out n i o X g a l q))

  pub clash_upper : (U : State) → Least (consequences (definites (possibly i o) rs)) U → (a : ℕ) → a < n → i a ≡ true → U a ≡ false → count_by n rs cs i o ≡ 0
  clash_upper U B a l t f = none_counted (λ X S g. true_false (upper_inside U X B S g a (agree_in n i o X g a l t)) f)

  -- With everything decided that rules ask for, the lower bound is the only candidate.
  module _ (decided : (r : CountRule) → Memᴰ r rs → possibly i o r ≡ true → surely i o r ≡ true) (L : State)
      (B : Least (consequences (definites (surely i o) rs)) L) (within : (a : ℕ) → L a ≡ true → a < n) where
    same_rules : (X : State) → agrees n i o X ≡ true → definites (applies X) rs ≡ definites (surely i o) rs
    same_rules X g =
        ap (map (λ (r : CountRule). definite r.rule)) (filter_cong (applies X) (surely i o) rs (λ r m.
        bool_ext (λ e. decided r m (applies_possible X g r m e)) (sure_applies X g r m)))

    only : (X : State) → Fits X → agrees n i o X ≡ true → X ≡ L
    only X S g = least_same (consequences (definites (surely i o) rs)) X L (subst (λ D. Least (consequences D) X) (same_rules X g) S.least) B

    pub leaf_unlawful : all (λ b. not (holds L b)) cs ≡ false → count_by n rs cs i o ≡ 0
    leaf_unlawful f = none_counted (λ X S g. true_false (subst (λ Y. all (λ b. not (holds Y b)) cs ≡ true) (only X S g) S.lawful) f)

    pub leaf_one : agrees n i o L ≡ true → all (λ b. not (holds L b)) cs ≡ true → count_by n rs cs i o ≡ 1
    unfolding count_by
    leaf_one g t =
        nodup_same (filter test (states n)) (L ∷ []) (nodup_filter test (states n) (states_distinct n)) (nodup_cons (λ m. Memᴰ.not-nil m) Pairwise.nil)
        (λ X m. let f = filter_out test (states n) X m in let u = counted_out X f.0 f.1 in Memᴰ.head (only X u.0 u.1))
        (λ X m. subst (λ Y. Memᴰ Y (filter test (states n))) (sym (Memᴰ.eq_of_singleton m))
        (filter_in test (states n) L (states_all n L within)
        (and_intro (stable_by_in n rs low cs L (record { within = within; least = subst (λ D. Least (consequences D) L) (sym (same_rules L g)) B; lawful = t })) g)))
      where
        test : State → Bool
        test X = is_stable_by n rs cs X && agrees n i o X

-- One decision more.
module _ (n c : ℕ) (l : c < n) (i o X : State) where
  with_out : (Y : State) (a : ℕ) → with c Y a ≡ true → (c ≡ a) ⊎ (Y a ≡ true)
  unfolding with
  with_out Y a e = ⊎_elim (λ q. inl (eqb-true c a q)) (λ y. inr y) (or_cases (eqb c a) (Y a) e)

  with_old : (Y : State) (a : ℕ) → Y a ≡ true → with c Y a ≡ true
  unfolding with
  with_old Y a e = or_right (eqb c a) e

  with_new : (Y : State) → with c Y c ≡ true
  unfolding with
  with_new Y = or_left (Y c) (eq-eqb c c refl)

  agree_with_in : agrees n (with c i) o X ≡ (agrees n i o X && X c)
  agree_with_in =
      bool_ext
      (λ g. and_intro (agree_make n i o X (λ a k t. agree_in n (with c i) o X g a k (with_old i a t)) (agree_out n (with c i) o X g)) (agree_in n (with c i) o X g c l (with_new i)))
      (λ e. let g = and_left (agrees n i o X) (X c) e in
      agree_make n (with c i) o X (λ a k t. ⊎_elim (λ q. subst (λ b. X b ≡ true) q (and_right (agrees n i o X) (X c) e)) (agree_in n i o X g a k) (with_out i a t)) (agree_out n i o X g))

  agree_with_out : agrees n i (with c o) X ≡ (agrees n i o X && not (X c))
  agree_with_out =
      bool_ext
      (λ g. and_intro (agree_make n i o X (agree_in n i (with c o) X g) (λ a k t. agree_out n i (with c o) X g a k (with_old o a t))) (not_intro (agree_out n i (with c o) X g c l (with_new o))))
      (λ e. let g = and_left (agrees n i o X) (not (X c)) e in
      agree_make n i (with c o) X (agree_in n i o X g) (λ a k t. ⊎_elim (λ q. subst (λ b. X b ≡ false) q (not_elim (and_right (agrees n i o X) (not (X c)) e))) (agree_out n i o X g a k) (with_out o a t)))

pub count_split : (n : ℕ) (rs : List CountRule) (cs : List Body) (i o : State) (c : ℕ) → c < n → count_by n rs cs i o ≡ count_by n rs cs (with c i) o + count_by n rs cs i (with c o)
unfolding count_by
count_split n rs cs i o c l =
    filter_parts (λ X. is_stable_by n rs cs X && agrees n i o X) (λ X. X c) (states n)
    ∙ (ap (λ k. k + length (filter (λ X. is_stable_by n rs cs X && agrees n i o X && not (X c)) (states n)))
    (ap length (filter_cong (λ X. is_stable_by n rs cs X && agrees n i o X && X c) (λ X. is_stable_by n rs cs X && agrees n (with c i) o X) (states n) (λ X _.
    and_assoc (is_stable_by n rs cs X) (agrees n i o X) (X c) ∙ ap (λ (b : Bool). is_stable_by n rs cs X && b) (sym (agree_with_in n c l i o X)))))
    ∙ ap (λ k. length (filter (λ X. is_stable_by n rs cs X && agrees n (with c i) o X) (states n)) + k)
    (ap length (filter_cong (λ X. is_stable_by n rs cs X && agrees n i o X && not (X c)) (λ X. is_stable_by n rs cs X && agrees n i (with c o) X) (states n) (λ X _.
    and_assoc (is_stable_by n rs cs X) (agrees n i o X) (not (X c)) ∙ ap (λ (b : Bool). is_stable_by n rs cs X && b) (sym (agree_with_out n c l i o X))))))
