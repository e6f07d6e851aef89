-- The closure of the edges, read backwards, is reach: Warshall's rounds.
use mathlib.Core.Bool.{true, ◌&&◌, ◌||◌}
use mathlib.Core.Logic.{⊎_elim}
use mathlib.Core.Path.{◌≡◌, refl, sym, subst}
use Prim.Native.Nat.{ℕ, zero, suc, ◌<◌}
use native.Mathlib.Nat.{not-suc-le-zero}
use native.Mathlib.Omega.{arith}
use borrow.Author.Tests.{eqb-true, eqb-false, eq-eqb}
use lib.Dec.{eqb}
use Rattle.lists.proofs.Bools.{by_bool, bool_ext, and_intro, and_left, and_right, or_cases, or_left, or_right}
use Rattle.asp.specs.Program.{Program, well_formed}
use Rattle.unfolding.specs.Graph.{edge, reach, same_component}
use Rattle.unfolding.proofs.Reach.{reach_induction, reach_refl, reach_edge, reach_trans, reach_below, same_in, same_there, same_back}
use Rattle.components.specs.inner.Reachability.{Relation, closure}

module _ (R : Relation) where
  more : (k a b : ℕ) → closure R k a b ≡ true → closure R (suc k) a b ≡ true
  unfolding closure
  more k a b e = or_left (closure R k a k && closure R k k b) e

  join : (k a b : ℕ) → closure R k a k ≡ true → closure R k k b ≡ true → closure R (suc k) a b ≡ true
  unfolding closure
  join k a b p q = or_right (closure R k a b) (and_intro p q)

  split : {C : Type 0} (k a b : ℕ) → closure R (suc k) a b ≡ true → (closure R k a b ≡ true → C) → (closure R k a k ≡ true → closure R k k b ≡ true → C) → C
  unfolding closure
  split k a b e f g =
      ⊎_elim f (λ q. g (and_left (closure R k a k) (closure R k k b) q) (and_right (closure R k a k) (closure R k k b) q))
      (or_cases (closure R k a b) (closure R k a k && closure R k k b) e)

  pub base : (k a b : ℕ) → R a b ≡ true → closure R k a b ≡ true
  unfolding closure
  base zero a b e = e
  base (suc k) a b e = more k a b (base k a b e)

  -- After k rounds the relation is transitive through the numbers below k.
  pub transitive : (k j : ℕ) → j < k → (a b : ℕ) → closure R k a j ≡ true → closure R k j b ≡ true → closure R k a b ≡ true
  transitive zero j l a b p q = absurd (not-suc-le-zero l)
  transitive (suc k) j l a b p q =
      by_bool (eqb j k) (λ t. at_k (eqb-true j k t)) (λ f. below (transitive k j (let ne = eqb-false j k f in omega arith)))
    where
      at_k : j ≡ k → closure R (suc k) a b ≡ true
      at_k e =
          split k a k (subst (λ x. closure R (suc k) a x ≡ true) e p)
          (λ u. split k k b (subst (λ x. closure R (suc k) x b ≡ true) e q) (λ v. join k a b u v) (λ _ v. join k a b u v))
          (λ u _. split k k b (subst (λ x. closure R (suc k) x b ≡ true) e q) (λ v. join k a b u v) (λ _ v. join k a b u v))

      below : ((a b : ℕ) → closure R k a j ≡ true → closure R k j b ≡ true → closure R k a b ≡ true) → closure R (suc k) a b ≡ true
      below ih =
          split k a j p
          (λ u. split k j b q (λ v. more k a b (ih a b u v)) (λ v w. join k a b (ih a k u v) w))
          (λ u v. split k j b q (λ w. join k a b u (ih k b v w)) (λ _ w. join k a b u w))

-- The edges into an atom.
abbrev pub into : Program → Relation
into P a b = edge P b a

module _ (P : Program) (wf : well_formed P ≡ true) where
  sound : (k a b : ℕ) → closure (into P) k a b ≡ true → b < P.atoms → reach P b a ≡ true
  unfolding closure
  sound zero a b e l = reach_edge P wf b l b a (reach_refl P wf b l) e
  sound (suc k) a b e l =
      split (into P) k a b e (λ u. sound k a b u l) (λ u v. let r = sound k k b v l in reach_trans P wf b k a l r (sound k a k u (reach_below P wf b l k r)))

  complete : (a b : ℕ) → a < P.atoms → reach P b a ≡ true → (a ≡ b → ⊥) → b < P.atoms → closure (into P) P.atoms a b ≡ true
  complete a b la r ne l =
      ⊎_elim (λ e. absurd (ne (sym (eqb-true b a e)))) (λ c. c)
      (or_cases (eqb b a) (closure (into P) P.atoms a b)
      (reach_induction P wf b l (λ x. (eqb b x || closure (into P) P.atoms x b) ≡ true) (or_left (closure (into P) P.atoms b b) (eq-eqb b b refl)) step a r))
    where
      step : (d x : ℕ) → d < P.atoms → (eqb b d || closure (into P) P.atoms d b) ≡ true → edge P d x ≡ true → (eqb b x || closure (into P) P.atoms x b) ≡ true
      step d x h y e =
          or_right (eqb b x)
          (⊎_elim (λ q. subst (λ z. closure (into P) P.atoms x z ≡ true) (sym (eqb-true b d q)) (base (into P) P.atoms x d e))
          (λ c. transitive (into P) P.atoms d h x b (base (into P) P.atoms x d e) c) (or_cases (eqb b d) (closure (into P) P.atoms d b) y))

  -- Two different atoms are of one component just when the closure table relates them both ways.
  pub mutual_reach : (a b : ℕ) → a < P.atoms → b < P.atoms → (a ≡ b → ⊥) → (closure (into P) P.atoms a b && closure (into P) P.atoms b a) ≡ same_component P a b
  mutual_reach a b la lb ne =
      bool_ext
      (λ e. same_in P wf a b (sound P.atoms b a (and_right (closure (into P) P.atoms a b) (closure (into P) P.atoms b a) e) la)
      (sound P.atoms a b (and_left (closure (into P) P.atoms a b) (closure (into P) P.atoms b a) e) lb))
      (λ t. and_intro (complete a b la (same_back P wf a b t) ne lb) (complete b a lb (same_there P wf a b t) (λ e. ne (sym e)) la))
