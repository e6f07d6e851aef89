-- Laws of one rule and of a pass over the rules.
use mathlib.Core.Bool.{Bool, true, false, not, ◌||◌}
use mathlib.Core.List.{List}
use mathlib.Core.Logic.{inl, inr, ⊎_elim}
use mathlib.Core.Path.{◌≡◌, refl, sym, ◌∙◌, ap}
use Prim.Native.Nat.{ℕ, ◌^◌, ◌≤◌, ◌<◌}
use native.Mathlib.Omega.{arith}
use borrow.Author.Tests.{eqb-true, eq-eqb, ne_eqb}
use lib.Dec.{eqb}
use Rattle.lists.specs.Lists.{all, member}
use Rattle.lists.proofs.Bools.{by_bool, true_false, is_false, bool_ext, and_intro, and_left, and_right, or_cases, or_left, or_right, not_intro, not_elim}
use Rattle.lists.proofs.Members.{all_at, all_intro, member_in, member_out}
use Rattle.asp.specs.Program.{State, outside}
use Rattle.asp.specs.LeastModel.{Inside}
use Rattle.search.specs.inner.Decided.{CountRule}
use Rattle.bits.specs.inner.Sets.{has, With, Subset, Both}
use Rattle.bits.proofs.Digits.{digits_same, zero_has}
use Rattle.search.specs.inner.Rules.{bound, Matches, Applies, Fired}
use Rattle.search.specs.declared.Decisions.{Decisions}
use Rattle.search.specs.declared.Side.TheVariants.{Sure, Possible}

-- A list of atoms in a mask.
pub masked_all : (x : ℕ) (l : List ℕ) → ((b : ℕ) → has x b ≡ member b l) → (Y : State) → Inside (has x) Y → all Y l ≡ true
masked_all x l h Y i = all_intro Y l (λ a m. i a (h a ∙ member_in a l m))

pub all_masked : (x : ℕ) (l : List ℕ) → ((b : ℕ) → has x b ≡ member b l) → (Y : State) → all Y l ≡ true → Inside (has x) Y
all_masked x l h Y e a t = all_at Y l e a (member_out a l (sym (h a) ∙ t))

pub subset_all : (x y : ℕ) (l : List ℕ) (b : Bool) → ((a : ℕ) → has x a ≡ member a l) → Subset x y b → b ≡ all (has y) l
subset_all x y l b h S = bool_ext (λ t. masked_all x l h (has y) (S.inside t)) (λ e. S.all_inside (all_masked x l h (has y) e))

-- An empty intersection.
none_both : (x y r : ℕ) → Both x y r → r ≡ 0 → (a : ℕ) → has x a ≡ true → has y a ≡ false
none_both x y r B z a t = is_false (λ u. true_false (B.members a ∙ and_intro t u) (ap (λ n. has n a) z ∙ zero_has a))

pub empty_both : (x y r : ℕ) → r < 2 ^ 64 → Both x y r → ((a : ℕ) → has x a ≡ true → has y a ≡ false) → r ≡ 0
empty_both x y r l B h =
    digits_same 64 r 0 l (omega arith) (λ a. B.members a ∙ (is_false (λ t. true_false (and_right (has x a) (has y a) t) (h a (and_left (has x a) (has y a) t))) ∙ sym (zero_has a)))

pub apart_outside : (x y r : ℕ) (l : List ℕ) → r < 2 ^ 64 → ((a : ℕ) → has x a ≡ member a l) → Both x y r → eqb r 0 ≡ outside (has y) l
unfolding outside
apart_outside x y r l k h B =
    bool_ext (λ t. masked_all x l h (λ a. not (has y a)) (λ a u. not_intro (none_both x y r B (eqb-true r 0 t) a u)))
    (λ e. eq-eqb r 0 (empty_both x y r k B (λ a u. not_elim (all_masked x l h (λ a. not (has y a)) e a u))))

-- The gate of a rule.
module _ (r : CountRule) (head pos neg gate : ℕ) (M : Matches r head pos neg gate) where
  gate_head : (a : ℕ) → has gate a ≡ true → (r.free ≡ true) × (a ≡ r.rule.head)
  gate_head a t =
      let e = sym (M.gates a) ∙ t in
      (and_left r.free (eqb a r.rule.head) e, eqb-true a r.rule.head (and_right r.free (eqb a r.rule.head) e))

  gate_has : r.free ≡ true → has gate r.rule.head ≡ true
  gate_has f = M.gates r.rule.head ∙ and_intro f (eq-eqb r.rule.head r.rule.head refl)

  gate_in : (i : ℕ) (b : Bool) → Subset gate i b → b ≡ (not r.free || has i r.rule.head)
  gate_in i b S =
      bool_ext (λ t. by_bool r.free (λ f. or_right (not r.free) (S.inside t r.rule.head (gate_has f))) (λ f. or_left (has i r.rule.head) (not_intro f)))
      (λ e. S.all_inside (λ a t. let u = gate_head a t in
      ⊎_elim (λ f. absurd (true_false u.0 (not_elim f))) (λ h. ap (has i) u.1 ∙ h) (or_cases (not r.free) (has i r.rule.head) e)))

  gate_out : (o x : ℕ) → x < 2 ^ 64 → Both gate o x → eqb x 0 ≡ (not r.free || not (has o r.rule.head))
  gate_out o x l B =
      bool_ext (λ t. by_bool r.free (λ f. or_right (not r.free) (not_intro (none_both gate o x B (eqb-true x 0 t) r.rule.head (gate_has f)))) (λ f. or_left (not (has o r.rule.head)) (not_intro f)))
      (λ e. eq-eqb x 0 (empty_both gate o x l B (λ a t. let u = gate_head a t in
      ⊎_elim (λ f. absurd (true_false u.0 (not_elim f))) (λ h. ap (has o) u.1 ∙ not_elim h) (or_cases (not r.free) (not (has o r.rule.head)) e))))

module _ (d : Decisions) (neg gate : ℕ) where
  pub applies_sure : (x b : Bool) → Subset neg d.outs x → x ≡ true → Subset gate d.ins b → Applies (bound Sure d) neg gate b
  applies_sure x b N t G =
      record { is = λ r h p M. gate_in r h p neg gate M d.ins b G ∙ sym (rw (sym (subset_all neg d.outs r.rule.body.neg x M.body.negatives N) ∙ t) refl) }

  pub applies_not_sure : (x : Bool) → Subset neg d.outs x → x ≡ false → Applies (bound Sure d) neg gate x
  applies_not_sure x N f =
      record { is = λ r h p M. f ∙ sym (rw (sym (subset_all neg d.outs r.rule.body.neg x M.body.negatives N) ∙ f) refl) }

  pub applies_possible : (x y : ℕ) → x < 2 ^ 64 → Both neg d.ins x → x ≡ 0 → y < 2 ^ 64 → Both gate d.outs y → Applies (bound Possible d) neg gate (eqb y 0)
  applies_possible x y l N z k G =
      record { is = λ r h p M. gate_out r h p neg gate M d.outs y k G ∙ sym (rw (sym (apart_outside neg d.ins x r.rule.body.neg l M.body.negatives N) ∙ eq-eqb x 0 z) refl) }

  pub applies_not_possible : (x : ℕ) → x < 2 ^ 64 → Both neg d.ins x → (x ≡ 0 → ⊥) → Applies (bound Possible d) neg gate (eqb x 0)
  applies_not_possible x l N z =
      record { is = λ r h p M. ne_eqb x 0 z ∙ sym (rw (sym (apart_outside neg d.ins x r.rule.body.neg l M.body.negatives N) ∙ ne_eqb x 0 z) refl) }

-- One rule fires or not.
module _ (l head pos : ℕ) (b : Bool) where
  pub fire_adds : (x : Bool) (r : ℕ) → b ≡ true → Subset pos l x → x ≡ true → With l head r → l ≤ r → Fired l head pos b r
  fire_adds x r t S s W le =
      record {
        grows = le;
        keeps = λ a e. W.members a ∙ or_right (eqb a head) e;
        adds = λ a e. ⊎_elim (λ q. inr (eqb-true a head q, t, S.inside s)) (λ q. inl q) (or_cases (eqb a head) (has l a) (sym (W.members a) ∙ e));
        closes = λ _ _. W.members head ∙ or_left (has l head) (eq-eqb head head refl);
      }

  pub fire_lacks : (x : Bool) → Subset pos l x → x ≡ false → Fired l head pos b l
  fire_lacks x S f = record { grows = omega arith; keeps = λ a e. e; adds = λ a e. inl e; closes = λ _ i. absurd (true_false (S.all_inside i) f) }

  pub fire_idle : b ≡ false → Fired l head pos b l
  fire_idle f = record { grows = omega arith; keeps = λ a e. e; adds = λ a e. inl e; closes = λ t _. absurd (true_false t f) }
