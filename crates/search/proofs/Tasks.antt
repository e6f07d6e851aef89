-- What a task of the count implies: stable models that agree with the decisions, and what follows for them.
use mathlib.Core.Bool.{true, false, not, ◌&&◌, ◌||◌}
use mathlib.Core.List.{List, Memᴰ}
use mathlib.Core.Logic.{◌⊎◌, inl, inr, ⊎_elim}
use mathlib.Core.Path.{◌≡◌, refl, sym, ◌∙◌, ap, subst}
use Prim.Native.Nat.{ℕ, ◌^◌, ◌<◌}
use native.Mathlib.Omega.{arith}
use borrow.Author.Tests.{ltb-true, lt-ltb}
use lib.Dec.{ltb}
use lib.ListN.{length}
use Rattle.lists.specs.Lists.{all, range}
use Rattle.lists.proofs.Bools.{by_bool, true_false, is_true, is_false, bool_ext, and_intro, and_left, and_right, or_cases, or_left, or_right, not_intro, not_elim}
use Rattle.lists.proofs.Members.{all_at, all_intro, all_fails, filter_cong, range_in, range_out}
use Rattle.asp.specs.Program.{Body, State, outside, holds}
use Rattle.asp.specs.LeastModel.{Inside}
use Rattle.asp.specs.Least.{Least}
use Rattle.asp.specs.Count.{states}
use Rattle.search.specs.inner.Decided.{CountRule, applies, surely, possibly, is_stable_by, agrees, count_by}
use Rattle.asp.proofs.Counted.{states_within}
use Rattle.search.proofs.Branching.{StableBy, stable_by_out, fires_out, definites_more, sure_applies, none_counted, upper_inside, agree_in, agree_out, agree_make, clash_lower, clash_upper, leaf_one, leaf_unlawful}
use Rattle.bits.specs.inner.Sets.{has, Subset, Both, Either, Difference}
use Rattle.bits.proofs.Digits.{zero_has}
use Rattle.search.specs.inner.Rules.{Masks, Bound, operator, LeastBy}
use Rattle.search.specs.inner.Search.{lower, upper, deciding, agreeing, Task, Leaf}
use Rattle.search.specs.declared.Decisions.{Decisions}
use Rattle.search.proofs.Firing.{empty_both}

-- What surely applies possibly does.
surely_possibly : (i o : ℕ) → ((a : ℕ) → has i a ≡ true → has o a ≡ false) → (r : CountRule) → surely (has i) (has o) r ≡ true → possibly (has i) (has o) r ≡ true
unfolding outside
surely_possibly i o apart r e =
    let neg = r.rule.body.neg in
    let h = r.rule.head in
    and_intro (all_intro (λ a. not (has i a)) neg (λ a m. not_intro (is_false (λ t. true_false (all_at (has o) neg (and_left (all (has o) neg) (not r.free || has i h) e) a m) (apart a t)))))
    (⊎_elim (λ q. or_left (not (has o h)) q) (λ q. or_right (not r.free) (not_intro (apart h q))) (or_cases (not r.free) (has i h) (and_right (all (has o) neg) (not r.free || has i h) e)))

-- A state that agrees with decisions, and with what it has and lacks besides.
agree_more : (n : ℕ) (i o i' o' X : State) → agrees n i o X ≡ true → ((a : ℕ) → i' a ≡ true → (i a ≡ true) ⊎ (X a ≡ true))
    → ((a : ℕ) → o' a ≡ true → (o a ≡ true) ⊎ (X a ≡ false)) → agrees n i' o' X ≡ true
agree_more n i o i' o' X g f h =
    agree_make n i' o' X (λ a l t. ⊎_elim (agree_in n i o X g a l) (λ x. x) (f a t)) (λ a l t. ⊎_elim (agree_out n i o X g a l) (λ x. x) (h a t))

module _ (n : ℕ) (rs : List CountRule) (cs : List Body) (M : Masks) (d : Decisions) (T : Task n rs cs M d) where
  abbrev x : ℕ
  x = d.atoms

  abbrev i : ℕ
  i = d.ins

  abbrev o : ℕ
  o = d.outs

  -- More is decided.
  pub more : (i' o' : ℕ) → ((a : ℕ) → has i' a ≡ true → a < n) → ((a : ℕ) → has i' a ≡ true → has o' a ≡ false) → Task n rs cs M (deciding d i' o')
  more i' o' low apart =
      record {
        rules = T.rules;
        bodies = T.bodies;
        heads_low = T.heads_low;
        negs_low = T.negs_low;
        known = T.known;
        low = T.low;
        ins_low = low;
        apart = apart;
      }

  -- It follows from what was decided.
  same_count : (i' o' : ℕ) → Inside (has i) (has i') → Inside (has o) (has o')
      → ((X : State) → StableBy n rs T.heads_low cs X → agrees n (has i) (has o) X ≡ true
      → ((a : ℕ) → has i' a ≡ true → (has i a ≡ true) ⊎ (X a ≡ true)) × ((a : ℕ) → has o' a ≡ true → (has o a ≡ true) ⊎ (X a ≡ false)))
      → agreeing n rs cs d ≡ agreeing n rs cs (deciding d i' o')
  unfolding count_by
  same_count i' o' p q f =
      ap length (filter_cong (λ X. is_stable_by n rs cs X && agrees n (has i) (has o) X) (λ X. is_stable_by n rs cs X && agrees n (has i') (has o') X) (states n) (λ X w.
      bool_ext
      (λ e. let s = and_left (is_stable_by n rs cs X) (agrees n (has i) (has o) X) e in
      let g = and_right (is_stable_by n rs cs X) (agrees n (has i) (has o) X) e in
      let u = f X (stable_by_out n rs T.heads_low cs X (states_within n X w) s) g in
      and_intro s (agree_more n (has i) (has o) (has i') (has o') X g u.0 u.1))
      (λ e. and_intro (and_left (is_stable_by n rs cs X) (agrees n (has i') (has o') X) e)
      (agree_more n (has i') (has o') (has i) (has o) X (and_right (is_stable_by n rs cs X) (agrees n (has i') (has o') X) e) (λ a t. inl (p a t)) (λ a t. inl (q a t))))))

  -- What follows is in every stable model that agrees.
  follows : (l : ℕ) → LeastBy M (lower d) i l → (X : State) → StableBy n rs T.heads_low cs X → agrees n (has i) (has o) X ≡ true → Inside (has l) X
  follows l B X S g =
      B.below rs T.rules X (λ a e. S.least.closed a (definites_more (surely (has i) (has o)) (applies X) rs (sure_applies n rs T.heads_low T.negs_low cs (has i) (has o) X g) X a e))
      (λ a t. agree_in n (has i) (has o) X g a (T.ins_low a t) t)

  -- What follows meets what is out.
  pub meets : (l : ℕ) → LeastBy M (lower d) i l → (r : ℕ) → r < 2 ^ 64 → Both l o r → (r ≡ 0 → ⊥) → agreeing n rs cs d ≡ 0
  meets l B r small W ne =
      none_counted n rs T.heads_low T.negs_low cs (has i) (has o) (λ X S g. ne (empty_both l o r small W (λ a t. is_false (λ q. let y = follows l B X S g a t in
      true_false y (agree_out n (has i) (has o) X g a (S.within a y) q)))))

  -- An upper bound lacks what is in.
  pub lacks : (u : ℕ) → Least (operator (upper d) rs) (has u) → Subset i u false → agreeing n rs cs d ≡ 0
  lacks u upper S =
      by_bool (all (λ a. not (has i a) || has u a) (range 0 n))
      (λ t. absurd (true_false (S.all_inside (λ a x. let h = T.ins_low a x in
      ⊎_elim (λ q. absurd (true_false x (not_elim q))) (λ q. q) (or_cases (not (has i a)) (has u a) (all_at (λ a. not (has i a) || has u a) (range 0 n) t a (range_in 0 n a (omega arith) (omega arith)))))) refl))
      (λ g. let w = all_fails (λ a. not (has i a) || has u a) (range 0 n) g in
      let h = range_out 0 n w.0 w.1 in
      clash_upper n rs T.heads_low T.negs_low cs (has i) (has o) (has u) upper w.0 (omega (arith, h.high))
      (is_true (λ q. true_false (or_left (has u w.0) (not_intro q)) w.2)) (is_false (λ q. true_false (or_right (not (has i w.0)) q) w.2)))

  -- The least model.
  pub from_nothing : (B : Bound) (l : ℕ) → LeastBy M B 0 l → Least (operator B rs) (has l)
  from_nothing B l L = record { closed = L.closed rs T.rules; least = λ Y c. L.below rs T.rules Y c (λ a e. absurd (true_false e (zero_has a))) }

  -- What the upper bound lacks is out.
  module _ (u : ℕ) (C : LeastBy M (upper d) 0 u) (S : Subset i u true) (z outs : ℕ) (Z : Difference x u z) (E : Either o z outs) where
    outs_cases : (a : ℕ) → has outs a ≡ true → (has o a ≡ true) ⊎ (has u a ≡ false)
    outs_cases a t = ⊎_elim inl (λ q. inr (not_elim (and_right (has x a) (not (has u a)) (sym (Z.members a) ∙ q)))) (or_cases (has o a) (has z a) (sym (E.members a) ∙ t))

    outs_more : Inside (has o) (has outs)
    outs_more a t = E.members a ∙ or_left (has z a) t

    pub cut : Task n rs cs M (deciding d i outs)
    cut =
        more i outs T.ins_low
        (λ a t. is_false (λ q. ⊎_elim (λ p. true_false p (T.apart a t)) (λ f. true_false (S.inside refl a t) f) (outs_cases a q)))

    pub cut_count : agreeing n rs cs d ≡ agreeing n rs cs (deciding d i outs)
    cut_count =
        same_count i outs (λ a t. t) outs_more (λ X F g.
        (λ a t. inl t, λ a t. ⊎_elim inl (λ f. inr (is_false (λ q. true_false (upper_inside n rs T.heads_low T.negs_low cs (has i) (has o) (has u) X (from_nothing (upper d) u C) F g a q) f))) (outs_cases a t)))

  -- What follows is in.
  module _ (l : ℕ) (B : LeastBy M (lower d) i l) (r : ℕ) (W : Both l o r) (none : r ≡ 0) (y ins : ℕ) (Y : Both l x y) (E : Either i y ins) where
    ins_cases : (a : ℕ) → has ins a ≡ true → (has i a ≡ true) ⊎ ((has l a ≡ true) × (has x a ≡ true))
    ins_cases a t =
        ⊎_elim inl (λ q. let e = sym (Y.members a) ∙ q in inr (and_left (has l a) (has x a) e, and_right (has l a) (has x a) e)) (or_cases (has i a) (has y a) (sym (E.members a) ∙ t))

    pub joined : Task n rs cs M (deciding d ins o)
    joined =
        more ins o (λ a t. ⊎_elim (T.ins_low a) (λ q. T.low a q.1) (ins_cases a t))
        (λ a t. ⊎_elim (T.apart a) (λ q. is_false (λ p. true_false (W.members a ∙ and_intro q.0 p) (ap (λ z. has z a) none ∙ zero_has a))) (ins_cases a t))

    pub joined_count : agreeing n rs cs d ≡ agreeing n rs cs (deciding d ins o)
    joined_count =
        same_count ins o (λ a t. E.members a ∙ or_left (has y a) t) (λ a t. t) (λ X F g.
        (λ a t. ⊎_elim inl (λ q. inr (follows l B X F g a q.0)) (ins_cases a t), λ a t. inl t))

  module _ (l : ℕ) (B : LeastBy M (lower d) 0 l) where
    lowest : Least (operator (lower d) rs) (has l)
    lowest = from_nothing (lower d) l B

    within : (a : ℕ) → has l a ≡ true → a < n
    within a e =
        ltb-true a n (lowest.least (λ b. ltb b n) (λ b t. let F = fires_out (surely (has i) (has o)) rs (λ b. ltb b n) b t in
        subst (λ x. ltb x n ≡ true) F.head (lt-ltb F.rule.rule.head n (T.heads_low F.rule F.stands))) a e)

    -- The lower bound meets what is out.
    pub met : (r : ℕ) → r < 2 ^ 64 → Both l o r → (r ≡ 0 → ⊥) → agreeing n rs cs d ≡ 0
    met r small W ne =
        by_bool (all (λ a. not (has l a && has o a)) (range 0 n))
        (λ t. absurd (ne (empty_both l o r small W (λ a x. is_false (λ y. let h = within a x in
        true_false (and_intro x y) (not_elim (all_at (λ a. not (has l a && has o a)) (range 0 n) t a (range_in 0 n a (omega arith) (omega arith)))))))))
        (λ f. let w = all_fails (λ a. not (has l a && has o a)) (range 0 n) f in
        let both = is_true (λ q. true_false (not_intro q) w.2) in
        let h = range_out 0 n w.0 w.1 in
        clash_lower n rs T.heads_low T.negs_low cs (has i) (has o) (has l) lowest w.0 (omega (arith, h.high))
        (and_left (has l w.0) (has o w.0) both) (and_right (has l w.0) (has o w.0) both))

    -- Everything is decided: the bounds are one set.
    module _ (all-decided : (a : ℕ) → has x a ≡ true → (has i a || has o a) ≡ true) where
      decided : (q : CountRule) → Memᴰ q rs → possibly (has i) (has o) q ≡ true → surely (has i) (has o) q ≡ true
      unfolding outside
      decided q s e =
          let ns = q.rule.body.neg in
          let h = q.rule.head in
          let p = and_left (all (λ a. not (has i a)) ns) (not q.free || not (has o h)) e in
          let g = and_right (all (λ a. not (has i a)) ns) (not q.free || not (has o h)) e in
          and_intro (all_intro (has o) ns (λ a x. ⊎_elim (λ y. absurd (true_false y (not_elim (all_at (λ a. not (has i a)) ns p a x)))) (λ y. y) (or_cases (has i a) (has o a) (all-decided a (T.known q s a (inl x))))))
          (by_bool q.free (λ f. ⊎_elim (λ y. or_right (not q.free) y)
          (λ y. absurd (⊎_elim (λ v. true_false f (not_elim v)) (λ v. true_false y (not_elim v)) (or_cases (not q.free) (not (has o h)) g))) (or_cases (has i h) (has o h) (all-decided h (T.known q s h (inr (f, refl))))))
          (λ f. or_left (has i h) (not_intro f)))

      both : Least (operator (upper d) rs) (has l)
      both =
          record {
            closed = λ a e. lowest.closed a (definites_more (possibly (has i) (has o)) (surely (has i) (has o)) rs decided (has l) a e);
            least = λ Y c. lowest.least Y (λ a e. c a (definites_more (surely (has i) (has o)) (possibly (has i) (has o)) rs (λ q _. surely_possibly i o T.apart q) Y a e));
          }

      module _ (r : ℕ) (small : r < 2 ^ 64) (W : Both l o r) (zero-both : r ≡ 0) where
        agreed : Subset i l true → agrees n (has i) (has o) (has l) ≡ true
        agreed S =
            agree_make n (has i) (has o) (has l) (λ a _ x. S.inside refl a x)
            (λ a _ y. is_false (λ x. true_false (W.members a ∙ and_intro x y) (ap (λ z. has z a) zero-both ∙ zero_has a)))

        -- The candidate is a stable model or not.
        pub candidate : (v : ℕ) → Leaf M.records M.sizes i l v → v ≡ agreeing n rs cs d
        candidate v K = by_bool K.holds_in (λ t. by_bool K.obeys (fits t) (breaks t)) out
          where
            law : K.holds_in ≡ true → K.obeys ≡ all (λ b. not (holds (has l) b)) cs
            law t = (K.tested t).is cs T.bodies

            fits : K.holds_in ≡ true → K.obeys ≡ true → v ≡ agreeing n rs cs d
            fits t d =
                (K.is ∙ rw (t, d) refl)
                ∙ sym (leaf_one n rs T.heads_low T.negs_low cs (has i) (has o) decided (has l) lowest within (agreed (subst (Subset i l) t K.asked)) (sym (law t) ∙ d))

            breaks : K.holds_in ≡ true → K.obeys ≡ false → v ≡ agreeing n rs cs d
            breaks t d =
                (K.is ∙ rw (t, d) refl)
                ∙ sym (leaf_unlawful n rs T.heads_low T.negs_low cs (has i) (has o) decided (has l) lowest within (sym (law t) ∙ d))

            out : K.holds_in ≡ false → v ≡ agreeing n rs cs d
            out f = (K.is ∙ rw f refl) ∙ sym (lacks l both (subst (Subset i l) f K.asked))
