-- The count is the number of answer sets.
use mathlib.Core.Bool.{true, false, not, ◌&&◌, false≢true}
use mathlib.Core.List.Memᴰ
use mathlib.Core.List.Pairwise
use mathlib.Core.List.{List, map, Memᴰ, Nodup}
use mathlib.Core.Logic.{⊎_elim}
use mathlib.Core.Path.{◌≡◌, refl, sym, ◌∙◌, ap, subst, fun_ext}
use Prim.Native.Nat.{ℕ, zero, suc, ◌<◌}
use native.Mathlib.Omega.{arith}
use borrow.Author.Tests.{eqb-true, eqb-false, eq-eqb, ne_eqb}
use lib.Dec.{eqb}
use lib.ListN.{length}
use Rattle.lists.proofs.Bools.{by_bool, true_false, is_false, bool_ext, and_intro, and_left, and_right, or_cases, or_left, not_elim}
use Rattle.lists.proofs.Members.{filter_in, filter_out}
use Rattle.lists.proofs.Nodup.{nodup_cons, nodup_append, nodup_map, nodup_filter, nodup_same}
use Rattle.asp.specs.Program.{Program, State, well_formed}
use Rattle.asp.specs.StableModel.{StableModel, is_stable}
use Rattle.asp.specs.AnswerSet.{IsAnswerSet}
use Rattle.asp.specs.Count.{empty, with, states, stable_models, count, Enumerates}
use Rattle.asp.proofs.Same.{stable_answer, answer_stable, test_in, test_out}

with_other : (n : ℕ) (X : State) (a : ℕ) → (a ≡ n → ⊥) → with n X a ≡ X a
unfolding with
with_other n X a ne = rw (ne_eqb n a (λ q. ne (sym q))) refl

with_same : (n : ℕ) (X : State) → with n X n ≡ true
unfolding with
with_same n X = or_left (X n) (eq-eqb n n refl)

-- The states of n atoms are the sets of atoms below n, each once.
pub states_within : (n : ℕ) (X : State) → Memᴰ X (states n) → (a : ℕ) → X a ≡ true → a < n
unfolding states empty with
states_within zero X m a e = absurd (false≢true (ap (λ (Y : State). Y a) (sym (Memᴰ.eq_of_singleton m)) ∙ e))
states_within (suc n) X m a e =
    ⊎_elim (λ k. let l = states_within n X k a e in omega arith)
    (λ k. let u = Memᴰ.of_map (with n) (states n) k in
    ⊎_elim (λ q. let e = eqb-true n a q in omega arith) (λ q. let l = states_within n u.0 u.1 a q in omega arith)
    (or_cases (eqb n a) (u.0 a) (ap (λ (Y : State). Y a) u.2 ∙ e)))
    (Memᴰ.append_cases (states n) m)

pub states_all : (n : ℕ) (X : State) → ((a : ℕ) → X a ≡ true → a < n) → Memᴰ X (states n)
unfolding states empty with
states_all zero X h = Memᴰ.head (fun_ext (λ a. is_false (λ e. let l = h a e in omega arith)))
states_all (suc n) X h =
    by_bool (X n)
    (λ t. Memᴰ.append_right (states n) (subst (λ Y. Memᴰ Y (map (with n) (states n))) (fun_ext (back t)) (Memᴰ.map (with n) (states_all n without less))))
    (λ f. Memᴰ.append_left (map (with n) (states n)) (states_all n X (λ a e. let l = h a e in let ne : a ≡ n → ⊥ = λ q. true_false e (ap X q ∙ f) in omega arith)))
  where
    without : State
    without a = X a && not (eqb n a)

    less : (a : ℕ) → without a ≡ true → a < n
    less a e =
        let l = h a (and_left (X a) (not (eqb n a)) e) in
        let ne : n ≡ a → ⊥ = eqb-false n a (not_elim (and_right (X a) (not (eqb n a)) e)) in
        omega arith

    back : X n ≡ true → (a : ℕ) → with n without a ≡ X a
    back t a =
        by_bool (eqb n a) (λ q. or_left (without a) q ∙ sym (ap X (sym (eqb-true n a q)) ∙ t))
        (λ q. rw q (bool_ext (λ e. and_left (X a) true e) (λ e. and_intro e refl)))

pub states_distinct : (n : ℕ) → Nodup (states n)
unfolding states
states_distinct zero = nodup_cons (λ m. elim m [ ]) Pairwise.nil
states_distinct (suc n) =
    nodup_append (states n) (map (with n) (states n)) (states_distinct n) (nodup_map (with n) (states n) one (states_distinct n))
    (λ X m k. let u = Memᴰ.of_map (with n) (states n) k in
    let l = states_within n X m n (ap (λ (Y : State). Y n) (sym u.2) ∙ with_same n u.0) in omega arith)
  where
    out : (X : State) → Memᴰ X (states n) → X n ≡ false
    out X m = is_false (λ t. let l = states_within n X m n t in omega arith)

    one : (X Y : State) → Memᴰ X (states n) → Memᴰ Y (states n) → with n X ≡ with n Y → X ≡ Y
    one X Y m k e =
        fun_ext (λ a. by_bool (eqb a n) (λ q. let s = eqb-true a n q in ap X s ∙ out X m ∙ sym (ap Y s ∙ out Y k))
        (λ q. sym (with_other n X a (eqb-false a n q)) ∙ ap (λ (Z : State). Z a) e ∙ with_other n Y a (eqb-false a n q)))

module _ (P : Program) (w : well_formed P ≡ true) where
  -- The stable models are listed, each once.
  pub stable_listed : Enumerates (StableModel P) (stable_models P)
  unfolding stable_models
  stable_listed =
      record {
        distinct = nodup_filter (is_stable P) (states P.atoms) (states_distinct P.atoms);
        sound = λ X m. let u = filter_out (is_stable P) (states P.atoms) X m in test_out P w X (states_within P.atoms X u.0) u.1;
        complete = λ X S. filter_in (is_stable P) (states P.atoms) X (states_all P.atoms X S.within) (test_in P w X S);
      }

  -- However the answer sets of document 000 are listed, each once, the list is as long as the count says.
  pub count_answer_sets : (L : List State) → Enumerates (IsAnswerSet P) L → length L ≡ count P
  unfolding count
  count_answer_sets L E =
      nodup_same L (stable_models P) E.distinct stable_listed.distinct
      (λ X m. stable_listed.complete X (answer_stable P w X (E.sound X m)))
      (λ X m. E.complete X (stable_answer P w X (stable_listed.sound X m)))
