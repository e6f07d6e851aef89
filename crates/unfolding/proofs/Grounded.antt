-- A state that the copies reproduce lies in the least model of its reduct; so, for a sequence that passes,
-- the states that the copies reproduce are the stable ones.
use mathlib.Core.Bool.{true, false≢true}
use mathlib.Core.List.{List, [], ◌∷◌, reverse, Sublistᴰ}
use mathlib.Core.Path.{◌≡◌, sym, ◌∙◌, subst}
use Prim.Native.Nat.{ℕ, zero, suc, ◌<◌}
use native.Mathlib.Nat.{not-suc-le-zero}
use native.Mathlib.Omega.{arith}
use borrow.Author.Tests.{eqb-true, eqb-false}
use lib.Dec.{eqb}
use Rattle.lists.proofs.Bools.{by_bool, bool_ext}
use Rattle.lists.proofs.Members.{all_at, all_intro}
use Rattle.asp.specs.Program.{Program, State, well_formed}
use Rattle.asp.specs.LeastModel.{Inside}
use Rattle.asp.specs.StableModel.{derived, StableModel}
use Rattle.asp.proofs.Derived.{fires_in, fires_out, derived_least, head_below, pos_below}
use Rattle.asp.proofs.Same.{stable_closed}
use Rattle.unfolding.specs.Graph.{same_component}
use Rattle.unfolding.specs.Chain.{Chain}
use Rattle.unfolding.proofs.Reach.{edge_in}
use Rattle.unfolding.proofs.Current.{reads, copy_value, current, current_here, current_other, reads_same, reads_other, sound}
use Rattle.unfolding.proofs.Exact.{complete}
use Rattle.unfolding.proofs.Ancestors.{ancestors, ancestors_same, ancestors_less}

module _ (P : Program) (wf : well_formed P ≡ true) (X : State) where
  -- Atoms with at most m ancestors, where those of X with fewer are derived.
  module _ (m : ℕ) (fewer : (b : ℕ) → ancestors P b < m → X b ≡ true → derived P X b ≡ true) where
    along : (s : List ℕ) (a : ℕ) → ancestors P a < suc m → current P X s a ≡ true → derived P X a ≡ true
    unfolding current copy_value
    along [] a l e = absurd (false≢true e)
    along (x ∷ past) a l e =
        by_bool (eqb x a)
        (λ q. let p = eqb-true x a q in subst (λ y. derived P X y ≡ true) p (at_entry (along past) (subst (λ y. ancestors P y < suc m) (sym p) l) (sym (current_here P X past x a p) ∙ e)))
        (λ q. along past a l (sym (current_other P X past x a (eqb-false x a q)) ∙ e))
      where
        at_entry : ((a : ℕ) → ancestors P a < suc m → current P X past a ≡ true → derived P X a ≡ true) → ancestors P x < suc m
            → copy_value P X (current P X past) x ≡ true → derived P X x ≡ true
        at_entry earlier low v =
            let L = reads P X (current P X past) x in
            let F = fires_out P.rules X L x v in
            let here : x < P.atoms = subst (λ y. y < P.atoms) F.head (head_below P wf F.rule F.stands) in
            (derived_least P wf X).closed x (fires_in P.rules X (derived P X) x (record {
              rule = F.rule;
              stands = F.stands;
              head = F.head;
              negatives = F.negatives;
              positives = all_intro (derived P X) F.rule.body.pos (λ b k.
                  let r = all_at L F.rule.body.pos F.positives b k in
                  by_bool (same_component P x b)
                  (λ t. earlier b (subst (λ y. y < suc m) (ancestors_same P wf x b here t) low) (sym (reads_same P X (current P X past) x b t) ∙ r))
                  (λ f. fewer b (let less = ancestors_less P wf b x (pos_below P wf F.rule F.stands b k) (edge_in P F.rule F.stands b x F.head k) f in omega arith)
                  (sym (reads_other P X (current P X past) x b f) ∙ r)));
            }))

  module _ (S : List ℕ) (own : Inside X (current P X S)) where
    grounded_below : (m a : ℕ) → ancestors P a < m → X a ≡ true → derived P X a ≡ true
    grounded_below zero a l x = absurd (not-suc-le-zero l)
    grounded_below (suc m) a l x = along m (grounded_below m) S a l (own a x)

    grounded : Inside X (derived P X)
    grounded a x = grounded_below (suc (ancestors P a)) a (omega arith) x

-- For a sequence that passes, given latest first.
module _ (P : Program) (wf : well_formed P ≡ true) (S : List ℕ) (pass : (w : List ℕ) → Chain P (reverse w) → Sublistᴰ w S) (X : State) where
  pub current_stable : ((a : ℕ) → X a ≡ current P X S a) → (a : ℕ) → X a ≡ derived P X a
  current_stable e a =
      bool_ext (grounded P wf X S (λ b x. sym (e b) ∙ x) a) (λ d. e a ∙ complete P wf X S pass (λ b c. e b ∙ c) a d)

  pub stable_current : StableModel P X → (a : ℕ) → X a ≡ current P X S a
  stable_current s a =
      bool_ext (λ x. complete P wf X S pass (sound P X (stable_closed P wf X s) S) a (sym (s.fixpoint a) ∙ x)) (sound P X (stable_closed P wf X s) S a)
