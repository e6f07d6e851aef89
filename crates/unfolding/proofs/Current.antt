-- What the copies made so far say of the atoms when the last copies have the values of X.
-- A past is the list of entries so far, the latest first.
use mathlib.Core.Bool.{Bool, true, false, cond, false≢true}
use mathlib.Core.List.{List, [], ◌∷◌}
use mathlib.Core.Path.{◌≡◌, refl, sym, ◌∙◌, ap, subst, fun_ext}
use Prim.Native.Nat.{ℕ}
use borrow.Author.Tests.{eqb-true, eqb-false, eq-eqb, ne_eqb}
use lib.Dec.{eqb}
use Rattle.lists.proofs.Bools.{by_bool}
use Rattle.asp.specs.Program.{Program, State}
use Rattle.asp.specs.LeastModel.{Inside}
use Rattle.asp.specs.Least.{Closed}
use Rattle.asp.proofs.Derived.{next, next_mono}
use Rattle.unfolding.specs.Graph.{same_component}

-- A rule for a reads the atoms of a's component in L, the others in X.
unfoldable pub reads : Program → State → State → ℕ → State
reads P X L a b = cond (same_component P a b) (L b) (X b)

-- The value of a copy of a, where L are the values of the copies before it.
unfoldable pub copy_value : Program → State → State → ℕ → Bool
copy_value P X L a = next P X (reads P X L a) a

-- The value of each atom's latest copy; false where it has none.
unfoldable pub current : Program → State → List ℕ → State
current P X [] b = false
current P X (a ∷ past) b = cond (eqb a b) (copy_value P X (current P X past) a) (current P X past b)

module _ (P : Program) (X : State) where
  pub current_here : (past : List ℕ) (a b : ℕ) → a ≡ b → current P X (a ∷ past) b ≡ copy_value P X (current P X past) a
  unfolding current
  current_here past a b e = rw (eq-eqb a b e) refl

  pub current_other : (past : List ℕ) (a b : ℕ) → (a ≡ b → ⊥) → current P X (a ∷ past) b ≡ current P X past b
  unfolding current
  current_other past a b ne = rw (ne_eqb a b ne) refl

  pub reads_same : (L : State) (a b : ℕ) → same_component P a b ≡ true → reads P X L a b ≡ L b
  unfolding reads
  reads_same L a b t = rw t refl

  pub reads_other : (L : State) (a b : ℕ) → same_component P a b ≡ false → reads P X L a b ≡ X b
  unfolding reads
  reads_other L a b f = rw f refl

  reads_mono : (L K : State) → Inside L K → (a : ℕ) → Inside (reads P X L a) (reads P X K a)
  reads_mono L K i a b r =
      by_bool (same_component P a b) (λ t. reads_same K a b t ∙ i b (sym (reads_same L a b t) ∙ r)) (λ f. reads_other K a b f ∙ (sym (reads_other L a b f) ∙ r))

  -- A copy that reads more is true where one that reads less is.
  pub copy_mono : (L K : State) → Inside L K → (a : ℕ) → copy_value P X L a ≡ true → copy_value P X K a ≡ true
  unfolding copy_value
  copy_mono L K i a e = next_mono P X (reads P X L a) (reads P X K a) (reads_mono L K i a) a e

  -- A copy that reads the state itself is true only where a state that is closed under its reduct has the atom.
  reads_self : (a : ℕ) → reads P X X a ≡ X
  reads_self a = fun_ext (λ b. by_bool (same_component P a b) (reads_same X a b) (reads_other X a b))

  closed_copy : Closed (next P X) X → (a : ℕ) → copy_value P X X a ≡ true → X a ≡ true
  unfolding copy_value
  closed_copy c a e = c a (subst (λ L. next P X L a ≡ true) (reads_self a) e)

  -- Sound: what the copies say lies in every state that is closed under its reduct.
  pub sound : Closed (next P X) X → (s : List ℕ) → Inside (current P X s) X
  unfolding current
  sound c [] b e = absurd (false≢true e)
  sound c (a ∷ past) b e =
      by_bool (eqb a b)
      (λ t. let q = eqb-true a b t in
      subst (λ x. X x ≡ true) q (closed_copy c a (copy_mono (current P X past) X (sound c past) a (sym (current_here past a b q) ∙ e))))
      (λ f. sound c past b (sym (current_other past a b (eqb-false a b f)) ∙ e))

  -- One more copy of an atom whose latest copy is true would be true.
  abbrev Repeats : List ℕ → Type 0
  Repeats past = (b : ℕ) → current P X past b ≡ true → copy_value P X (current P X past) b ≡ true

  grown : (past : List ℕ) → Repeats past → (a : ℕ) → Inside (current P X past) (current P X (a ∷ past))
  grown past again a b e =
      by_bool (eqb a b) (λ t. let q = eqb-true a b t in current_here past a b q ∙ again a (ap (current P X past) q ∙ e))
      (λ f. current_other past a b (eqb-false a b f) ∙ e)

  repeats : (past : List ℕ) → Repeats past
  unfolding current
  repeats [] b e = absurd (false≢true e)
  repeats (a ∷ past) b e =
      copy_mono (current P X past) (current P X (a ∷ past)) (grown past (repeats past) a) b
      (by_bool (eqb a b)
      (λ t. let q = eqb-true a b t in ap (copy_value P X (current P X past)) (sym q) ∙ (sym (current_here past a b q) ∙ e))
      (λ f. repeats past b (sym (current_other past a b (eqb-false a b f)) ∙ e)))

  -- Along a sequence the values only grow.
  pub current_grows : (past : List ℕ) (a : ℕ) → Inside (current P X past) (current P X (a ∷ past))
  current_grows past = grown past (repeats past)
