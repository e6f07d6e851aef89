-- Reach is the least relation that is reflexive and closed under edges, and transitive; every atom is in just one component.
use mathlib.Core.Bool.{Bool, true, ◌&&◌, false≢true}
use mathlib.Core.List.Memᴰ
use mathlib.Core.List.{List, [], ◌∷◌, Memᴰ}
use mathlib.Core.Logic.{⊎_elim}
use mathlib.Core.Path.{◌≡◌, refl, sym, ◌∙◌, ap, subst, fun_ext}
use Prim.Native.Nat.{ℕ, zero, suc, ◌+◌, ◌≤◌, ◌<◌}
use native.Mathlib.Nat.{le_antisymm}
use native.Mathlib.Omega.{arith}
use borrow.Author.Tests.{eqb-true, eq-eqb}
use lib.Dec.{eqb}
use Rattle.lists.specs.Lists.{any, member, range}
use Rattle.lists.proofs.Bools.{by_bool, true_false, bool_ext, and_intro, and_left, and_right, or_cases, or_left, or_right}
use Rattle.lists.proofs.Members.{any_at, any_intro, member_in, range_in, range_out}
use Rattle.asp.specs.Program.{Rule, Program, State, well_formed}
use Rattle.asp.specs.LeastModel.{iterate}
use Rattle.asp.specs.Least.{Least}
use Rattle.asp.proofs.Rounds.{iterate_least}
use Rattle.asp.proofs.Derived.{head_below}
use Rattle.unfolding.specs.Graph.{edge, onward, reach, same_component, first, component}
use Rattle.unfolding.specs.Component.{Component}

-- An edge comes from a rule.
pub edge_in : (P : Program) (r : Rule) → Memᴰ r P.rules → (b a : ℕ) → r.head ≡ a → Memᴰ b r.body.pos → edge P b a ≡ true
unfolding edge
edge_in P r m b a e k = any_intro (λ (r : Rule). eqb r.head a && member b r.body.pos) P.rules r m (and_intro (eq-eqb r.head a e) (member_in b r.body.pos k))

module _ (P : Program) (w : well_formed P ≡ true) where
  pub edge_below : (b a : ℕ) → edge P b a ≡ true → a < P.atoms
  unfolding edge
  edge_below b a e =
      let u = any_at (λ (r : Rule). eqb r.head a && member b r.body.pos) P.rules e in
      subst (λ x. x < P.atoms) (eqb-true u.0.head a (and_left (eqb u.0.head a) (member b u.0.body.pos) u.2)) (head_below P w u.0 u.1)

  -- From a start among the atoms.
  module _ (start : ℕ) (low : start < P.atoms) where
    onward_cases : {C : Type 0} (X : State) (a : ℕ) → onward P start X a ≡ true
        → (start ≡ a → C) → ((b : ℕ) → b < P.atoms → X b ≡ true → edge P b a ≡ true → C) → C
    unfolding onward
    onward_cases X a e f g =
        let step : ℕ → Bool = λ b. X b && edge P b a in
        ⊎_elim (λ q. f (eqb-true start a q))
        (λ q. let u = any_at step (range 0 P.atoms) q in
        let r = range_out 0 P.atoms u.0 u.1 in
        g u.0 (omega (arith, r.high)) (and_left (X u.0) (edge P u.0 a) u.2) (and_right (X u.0) (edge P u.0 a) u.2))
        (or_cases (eqb start a) (any step (range 0 P.atoms)) e)

    onward_start : (X : State) (a : ℕ) → start ≡ a → onward P start X a ≡ true
    unfolding onward
    onward_start X a q = or_left (any (λ b. X b && edge P b a) (range 0 P.atoms)) (eq-eqb start a q)

    onward_edge : (X : State) (b a : ℕ) → b < P.atoms → X b ≡ true → edge P b a ≡ true → onward P start X a ≡ true
    unfolding onward
    onward_edge X b a l x e =
        or_right (eqb start a) (any_intro (λ b. X b && edge P b a) (range 0 P.atoms) b (range_in 0 P.atoms b (omega arith) (omega arith)) (and_intro x e))

    reach_least : Least (onward P start) (reach P start)
    unfolding reach
    reach_least =
        iterate_least P.atoms (onward P start)
        (record {
          mono = λ X Y i a e. onward_cases X a e (onward_start Y a) (λ b l x k. onward_edge Y b a l (i b x) k);
          bounded = λ X a e. onward_cases X a e (λ q. subst (λ x. x < P.atoms) q low) (λ b l x k. edge_below b a k);
        })

    -- Whatever holds of the start, and of an edge's end with its beginning, holds of all that is reached.
    module _ (Y : ℕ → Type 0) (s : Y start) (h : (b a : ℕ) → b < P.atoms → Y b → edge P b a ≡ true → Y a) where
      rounds_induction : (k a : ℕ) → iterate (onward P start) k a ≡ true → Y a
      unfolding iterate
      rounds_induction zero a e = absurd (false≢true e)
      rounds_induction (suc k) a e =
          onward_cases (iterate (onward P start) k) a e (λ q. subst Y q s) (λ b l x t. h b a l (rounds_induction k b x) t)

      pub reach_induction : (a : ℕ) → reach P start a ≡ true → Y a
      unfolding reach
      reach_induction = rounds_induction P.atoms

    pub reach_refl : reach P start start ≡ true
    reach_refl = reach_least.closed start (onward_start (reach P start) start refl)

    pub reach_below : (a : ℕ) → reach P start a ≡ true → a < P.atoms
    reach_below = reach_induction (λ x. x < P.atoms) low (λ b c _ _ k. edge_below b c k)

    pub reach_edge : (b a : ℕ) → reach P start b ≡ true → edge P b a ≡ true → reach P start a ≡ true
    reach_edge b a r k = reach_least.closed a (onward_edge (reach P start) b a (reach_below b r) r k)

  pub reach_trans : (a b c : ℕ) → a < P.atoms → reach P a b ≡ true → reach P b c ≡ true → reach P a c ≡ true
  reach_trans a b c l r q = reach_induction b (reach_below a l b r) (λ x. reach P a x ≡ true) r (λ d e _ y k. reach_edge a l d e y k) c q

  -- Atoms of one component.
  pub same_in : (a b : ℕ) → reach P a b ≡ true → reach P b a ≡ true → same_component P a b ≡ true
  unfolding same_component
  same_in a b r q = and_intro r q

  pub same_there : (a b : ℕ) → same_component P a b ≡ true → reach P a b ≡ true
  unfolding same_component
  same_there a b t = and_left (reach P a b) (reach P b a) t

  pub same_back : (a b : ℕ) → same_component P a b ≡ true → reach P b a ≡ true
  unfolding same_component
  same_back a b t = and_right (reach P a b) (reach P b a) t

  pub same_refl : (a : ℕ) → a < P.atoms → same_component P a a ≡ true
  same_refl a l = same_in a a (reach_refl a l) (reach_refl a l)

  pub same_sym : (a b : ℕ) → same_component P a b ≡ true → same_component P b a ≡ true
  same_sym a b t = same_in b a (same_back a b t) (same_there a b t)

  pub same_below : (a b : ℕ) → a < P.atoms → same_component P a b ≡ true → b < P.atoms
  same_below a b l t = reach_below a l b (same_there a b t)

  pub same_trans : (a b c : ℕ) → a < P.atoms → same_component P a b ≡ true → same_component P b c ≡ true → same_component P a c ≡ true
  same_trans a b c l t u =
      let m = same_below a b l t in
      same_in a c (reach_trans a b c l (same_there a b t) (same_there b c u))
      (reach_trans c b a (same_below b c m u) (same_back b c u) (same_back a b t))

  -- Every atom is in just one component: the atoms that it reaches and that reach it.
  pub component_of : (a : ℕ) → a < P.atoms → Component P (same_component P a)
  component_of a l =
      record {
        atoms = λ b t. same_below a b l t;
        mutual_reach = λ b c t u. same_there b c (same_trans b a c (same_below a b l t) (same_sym a b t) u);
        largest = λ D low all i b d. same_in a b (all a b (i a (same_refl a l)) d) (all b a d (i a (same_refl a l)));
      }

  pub component_only : (C : State) → Component P C → (a : ℕ) → C a ≡ true → C ≡ same_component P a
  component_only C K a c = fun_ext (λ b. bool_ext (inside b) (K.largest (same_component P a) own.atoms own.mutual_reach inside b))
    where
      own : Component P (same_component P a)
      own = component_of a (K.atoms a c)

      inside : (b : ℕ) → C b ≡ true → same_component P a b ≡ true
      inside b d = same_in a b (K.mutual_reach a b c d) (K.mutual_reach b a d c)

-- The first number of a rising list.
first_holds : (p : ℕ → Bool) (d : ℕ) (l : List ℕ) (x : ℕ) → Memᴰ x l → p x ≡ true → p (first p d l) ≡ true
unfolding first
first_holds p d [] x m e = absurd (Memᴰ.not-nil m)
first_holds p d (y ∷ l) x m e =
    by_bool (p y) (λ t. rw t t)
    (λ f. rw f (⊎_elim (λ q. absurd (true_false e (ap p q ∙ f))) (λ n. first_holds p d l x n e) (Memᴰ.cases_cons m)))

first_le : (p : ℕ → Bool) (d a k x : ℕ) → a ≤ x → x < a + k → p x ≡ true → first p d (range a k) ≤ x
unfolding first range
first_le p d a zero x l h e = absurd (omega arith)
first_le p d a (suc k) x l h e =
    by_bool (p a) (λ t. rw t l)
    (λ f. rw f (first_le p d (suc a) k x (let ne : a ≡ x → ⊥ = λ q. true_false e (ap p (sym q) ∙ f) in omega arith) (omega arith) e))

module _ (P : Program) (w : well_formed P ≡ true) where
  -- The name of an atom's component is its smallest atom.
  pub component_shared : (a : ℕ) → a < P.atoms → same_component P a (component P a) ≡ true
  unfolding component
  component_shared a l = first_holds (same_component P a) a (range 0 P.atoms) a (range_in 0 P.atoms a (omega arith) (omega arith)) (same_refl P w a l)

  pub component_smallest : (a b : ℕ) → a < P.atoms → same_component P a b ≡ true → component P a ≤ b
  unfolding component
  component_smallest a b l t = let m = same_below P w a b l t in first_le (same_component P a) a 0 P.atoms b (omega arith) (omega arith) t

  pub component_same : (a b : ℕ) → a < P.atoms → same_component P a b ≡ true → component P a ≡ component P b
  component_same a b l t =
      let m = same_below P w a b l t in
      le_antisymm (component_smallest a (component P b) l (same_trans P w a b (component P b) l t (component_shared b m)))
      (component_smallest b (component P a) m (same_trans P w b a (component P a) m (same_sym P w a b t) (component_shared a l)))

  pub component_joins : (a b : ℕ) → a < P.atoms → b < P.atoms → component P a ≡ component P b → same_component P a b ≡ true
  component_joins a b l m e =
      same_trans P w a (component P a) b l (component_shared a l) (subst (λ c. same_component P c b ≡ true) (sym e) (same_sym P w b (component P b) (component_shared b m)))
