-- The written atoms of a stable model of an expanded program decide the fresh ones; so demand 3 over all atoms gives demand 3 over the written ones.
use mathlib.Core.Bool.{true, not}
use mathlib.Core.List.{List}
use mathlib.Core.Logic.{◌↔◌}
use mathlib.Core.Path.{◌≡◌, refl, sym, ◌∙◌, ap, subst, fun_ext}
use Prim.Native.Nat.{ℕ, ◌≤◌, ◌<◌}
use native.Mathlib.Omega.{arith}
use borrow.Author.Tests.{ltb-true, ltb-false, lt-ltb}
use lib.Dec.{ltb}
use Rattle.lists.specs.Lists.{all, below}
use Rattle.lists.proofs.Bools.{by_bool, true_false, is_false, bool_ext, and_left}
use Rattle.lists.proofs.Members.{all_cong, below_at}
use Rattle.asp.specs.Program.{Program, State, outside, well_formed}
use Rattle.asp.specs.LeastModel.{Inside}
use Rattle.asp.specs.Least.{Least}
use Rattle.asp.specs.StableModel.{StableModel}
use Rattle.asp.proofs.Derived.{Fires, next, next_mono, fires_in, fires_out, derived_least}
use Rattle.unfolding.specs.Faithful.{Assignment, projection, Faithful}
use Rattle.sheet.specs.Sheet.{Record, rules_of, choices, program_of}
use Rattle.sheet.specs.inner.Walk.{AllSound}
use Rattle.choice.specs.Written.{projected, WrittenFaithful}
use Rattle.choice.proofs.Expanded.{rule_formed, expanded_formed}

-- The cut of a state.
pub written_same : (n : ℕ) (X : State) (a : ℕ) → a < n → projected n X a ≡ X a
unfolding projected
written_same n X a l = rw (lt-ltb a n l) refl

pub written_within : (n : ℕ) (X : State) (a : ℕ) → projected n X a ≡ true → a < n
unfolding projected
written_within n X a e = ltb-true a n (and_left (ltb a n) (X a) e)

pub written_whole : (n : ℕ) (X : State) → ((a : ℕ) → X a ≡ true → a < n) → projected n X ≡ X
unfolding projected
written_whole n X within = fun_ext (λ a. by_bool (ltb a n) (λ t. rw t refl) (λ f. rw f (sym (is_false (λ e. true_false (lt-ltb a n (within a e)) f)))))

-- States that agree on the written atoms agree on lists of these.
module _ (n : ℕ) (X Y : State) (same : (a : ℕ) → a < n → X a ≡ Y a) (l : List ℕ) (low : below n l ≡ true) where
  pub all_agree : all X l ≡ all Y l
  all_agree = all_cong X Y l (λ a m. same a (below_at n l low a m))

  pub outside_agree : outside X l ≡ outside Y l
  unfolding outside
  outside_agree = all_cong (λ a. not (X a)) (λ a. not (Y a)) l (λ a m. ap not (same a (below_at n l low a m)))

-- A stable model is the least closed set of its reduct, so each of its atoms has a rule that fires.
pub stable_least : (P : Program) → well_formed P ≡ true → (X : State) → StableModel P X → Least (next P X) X
stable_least P w X S = subst (Least (next P X)) (sym (fun_ext S.fixpoint)) (derived_least P w X)

stable_fires : (P : Program) → well_formed P ≡ true → (X : State) → StableModel P X → (a : ℕ) → X a ≡ true → Fires P.rules X X a
stable_fires P w X S a e =
    let L = stable_least P w X S in
    fires_out P.rules X X a (L.least (next P X X) (next_mono P X (next P X X) X L.closed) a e)

module _ (n : ℕ) (rs : List Record) (A : AllSound n rs) where
  -- The rules of fresh atoms speak of written atoms only, so stable models that agree on these agree.
  agree_inside : (X Y : State) → StableModel (program_of n rs) X → StableModel (program_of n rs) Y → ((a : ℕ) → a < n → X a ≡ Y a) → Inside X Y
  unfolding program_of
  agree_inside X Y SX SY same a e =
      by_bool (ltb a n) (λ t. sym (same a (ltb-true a n t)) ∙ e)
      (λ f. let w = expanded_formed n rs A in
      let F = stable_fires (program_of n rs) w X SX a e in
      let G = rule_formed n rs A F.rule F.stands in
      let h = F.head in
      let le = ltb-false a n f in
      (stable_least (program_of n rs) w Y SY).closed a (fires_in (rules_of n rs) Y Y a (record {
        rule = F.rule;
        stands = F.stands;
        head = h;
        negatives = sym (outside_agree n X Y same F.rule.body.neg (G.fresh_negatives (omega arith))) ∙ F.negatives;
        positives = sym (all_agree n X Y same F.rule.body.pos G.positives) ∙ F.positives;
      })))

  pub written_decide : (X Y : State) → StableModel (program_of n rs) X → StableModel (program_of n rs) Y → projected n X ≡ projected n Y → X ≡ Y
  written_decide X Y SX SY e = fun_ext (λ a. bool_ext (agree_inside X Y SX SY same a) (agree_inside Y X SY SX (λ b l. sym (same b l)) a))
    where
      same : (a : ℕ) → a < n → X a ≡ Y a
      same a l = sym (written_same n X a l) ∙ ap (λ (Z : State). Z a) e ∙ written_same n Y a l

-- A model's cut to the written atoms is the cut of its cut to all atoms.
projection_written : (n m : ℕ) → n ≤ m → (M : Assignment) → projection n M ≡ projected n (projection m M)
unfolding projection projected
projection_written n m l M =
    fun_ext (λ a. by_bool (ltb a n) (λ t. let k = ltb-true a n t in rw (t, lt-ltb a m (omega arith)) refl) (λ f. rw f refl))

pub faithful_over_written : (n : ℕ) (rs : List Record) → AllSound n rs → (s : List ℕ) → Faithful (program_of n rs) s → WrittenFaithful n (program_of n rs) s
unfolding program_of
faithful_over_written n rs A s F =
    record {
      projects = λ M h. (projection m M, F.projects M h, cut M);
      lifts = λ X S. let u = F.lifts X S in (u.0, u.1, cut u.0 ∙ ap (projected n) u.2);
      one_each = λ M M' h k e. F.one_each M M' h k (written_decide n rs A (projection m M) (projection m M') (F.projects M h) (F.projects M' k) (sym (cut M) ∙ e ∙ cut M'));
    }
  where
    m : ℕ
    m = (program_of n rs).atoms

    cut : (M : Assignment) → projection n M ≡ projected n (projection m M)
    cut M = projection_written n m (omega arith) M

-- Without a choice rule every atom is written.
pub faithful_is_old : (n : ℕ) (rs : List Record) → choices rs ≡ 0 → (s : List ℕ) → WrittenFaithful n (program_of n rs) s ↔ Faithful (program_of n rs) s
unfolding program_of
faithful_is_old n rs e s = (old, new)
  where
    P : Program
    P = program_of n rs

    atoms : P.atoms ≡ n
    atoms = omega arith

    whole : (X : State) → StableModel P X → projected n X ≡ X
    whole X S = written_whole n X (λ a t. subst (λ k. a < k) atoms (S.within a t))

    all_atoms : (M : Assignment) → projection P.atoms M ≡ projection n M
    all_atoms M = ap (λ k. projection k M) atoms

    old : WrittenFaithful n P s → Faithful P s
    old F =
        record {
          projects = λ M h. let u = F.projects M h in subst (StableModel P) (sym (all_atoms M ∙ u.2 ∙ whole u.0 u.1)) u.1;
          lifts = λ X S. let u = F.lifts X S in (u.0, u.1, all_atoms u.0 ∙ u.2 ∙ whole X S);
          one_each = λ M M' h k q. F.one_each M M' h k (sym (all_atoms M) ∙ q ∙ all_atoms M');
        }

    new : Faithful P s → WrittenFaithful n P s
    new F =
        record {
          projects = λ M h. (projection P.atoms M, F.projects M h, sym (all_atoms M) ∙ sym (whole (projection P.atoms M) (F.projects M h)));
          lifts = λ X S. let u = F.lifts X S in (u.0, u.1, sym (all_atoms u.0) ∙ u.2 ∙ sym (whole X S));
          one_each = λ M M' h k q. F.one_each M M' h k (all_atoms M ∙ q ∙ sym (all_atoms M'));
        }
