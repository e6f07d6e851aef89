-- What derives an atom: a rule whose positive atoms are in. The least model of a reduct is the least closed set.
use mathlib.Core.Bool.{Bool, true, ◌&&◌}
use mathlib.Core.List.Memᴰ
use mathlib.Core.List.{List, Memᴰ}
use mathlib.Core.Logic.{◌⊎◌, inl, ⊎_elim}
use mathlib.Core.Path.{◌≡◌, ◌∙◌, ap, subst}
use Prim.Native.Nat.{ℕ, ◌<◌}
use borrow.Author.Tests.{eqb-true, eq-eqb, ltb-true}
use lib.Dec.{eqb, ltb}
use Rattle.lists.specs.Lists.{below, all, filter}
use Rattle.lists.proofs.Bools.{and_intro, and_left, and_right}
use Rattle.lists.proofs.Members.{all_at, all_mono, any_at, any_intro, filter_in, filter_out}
use Rattle.asp.specs.Program.{Body, Rule, Program, State, outside, rule_below, body_below, well_formed}
use Rattle.asp.specs.LeastModel.{Definite, consequences, least_model, Inside}
use Rattle.asp.specs.Least.{Least}
use Rattle.asp.specs.StableModel.{definite, reduct, derived}
use Rattle.asp.proofs.Rounds.{Operator, iterate_least, iterate_below}

-- The rules of P.
rule_below_lem : (P : Program) → well_formed P ≡ true → (r : Rule) → Memᴰ r P.rules → rule_below P.atoms r ≡ true
unfolding well_formed
rule_below_lem P w r m =
    all_at (rule_below P.atoms) P.rules (and_left (all (rule_below P.atoms) P.rules) (all (body_below P.atoms) P.constraints) w) r m

pub head_below : (P : Program) → well_formed P ≡ true → (r : Rule) → Memᴰ r P.rules → r.head < P.atoms
unfolding rule_below
head_below P w r m = ltb-true r.head P.atoms (and_left (ltb r.head P.atoms) (body_below P.atoms r.body) (rule_below_lem P w r m))

-- The atoms of a body.
body_below_lem : (n : ℕ) (b : Body) → body_below n b ≡ true → (a : ℕ) → Memᴰ a b.pos ⊎ Memᴰ a b.neg → a < n
unfolding body_below below
body_below_lem n b e a m =
    ltb-true a n
    (⊎_elim (all_at (λ a. ltb a n) b.pos (and_left (below n b.pos) (below n b.neg) e) a) (all_at (λ a. ltb a n) b.neg (and_right (below n b.pos) (below n b.neg) e) a) m)

pub rule_atoms : (P : Program) → well_formed P ≡ true → (r : Rule) → Memᴰ r P.rules → (a : ℕ) → Memᴰ a r.body.pos ⊎ Memᴰ a r.body.neg → a < P.atoms
unfolding rule_below
rule_atoms P w r m = body_below_lem P.atoms r.body (and_right (ltb r.head P.atoms) (body_below P.atoms r.body) (rule_below_lem P w r m))

pub constraint_atoms : (P : Program) → well_formed P ≡ true → (b : Body) → Memᴰ b P.constraints → (a : ℕ) → Memᴰ a b.pos ⊎ Memᴰ a b.neg → a < P.atoms
unfolding well_formed
constraint_atoms P w b m =
    body_below_lem P.atoms b (all_at (body_below P.atoms) P.constraints (and_right (all (rule_below P.atoms) P.rules) (all (body_below P.atoms) P.constraints) w) b m)

pub pos_below : (P : Program) → well_formed P ≡ true → (r : Rule) → Memᴰ r P.rules → (b : ℕ) → Memᴰ b r.body.pos → b < P.atoms
pos_below P w r m b k = rule_atoms P w r m b (inl k)

-- A rule of the list fires in the state X for the atoms L: its negatives are outside X, its positives in L.
pub record Fires (rs : List Rule) (X L : State) (a : ℕ) : Type 0 where
  pub rule : Rule
  pub stands : Memᴰ rule rs
  pub head : rule.head ≡ a
  pub negatives : outside X rule.body.neg ≡ true
  pub positives : all L rule.body.pos ≡ true

module _ (rs : List Rule) (X : State) where
  pub fires_out : (L : State) (a : ℕ) → consequences (reduct X rs) L a ≡ true → Fires rs X L a
  unfolding consequences reduct definite
  fires_out L a e =
      let test : Definite → Bool = λ d. eqb d.head a && all L d.pos in
      let u = any_at test (reduct X rs) e in
      let v = Memᴰ.of_map definite (filter (λ r. outside X r.body.neg) rs) u.1 in
      let w = filter_out (λ r. outside X r.body.neg) rs v.0 v.1 in
      let t : (eqb v.0.head a && all L v.0.body.pos) ≡ true = ap test v.2 ∙ u.2 in
      record {
        rule = v.0;
        stands = w.0;
        head = eqb-true v.0.head a (and_left (eqb v.0.head a) (all L v.0.body.pos) t);
        negatives = w.1;
        positives = and_right (eqb v.0.head a) (all L v.0.body.pos) t;
      }

  pub fires_in : (L : State) (a : ℕ) → Fires rs X L a → consequences (reduct X rs) L a ≡ true
  unfolding consequences reduct definite
  fires_in L a h =
      any_intro (λ (d : Definite). eqb d.head a && all L d.pos) (reduct X rs) (definite h.rule)
      (Memᴰ.map definite (filter_in (λ r. outside X r.body.neg) rs h.rule h.stands h.negatives))
      (and_intro (eq-eqb h.rule.head a h.head) h.positives)

  fires_mono : (L M : State) → Inside L M → (a : ℕ) → Fires rs X L a → Fires rs X M a
  fires_mono L M i a h =
      record { rule = h.rule; stands = h.stands; head = h.head; negatives = h.negatives; positives = all_mono L M h.rule.body.pos i h.positives }

-- The immediate consequences under the reduct of X.
abbrev pub next : Program → State → State → State
next P X = consequences (reduct X P.rules)

pub next_mono : (P : Program) (X L M : State) → Inside L M → Inside (next P X L) (next P X M)
next_mono P X L M i a e = fires_in P.rules X M a (fires_mono P.rules X L M i a (fires_out P.rules X L a e))

module _ (P : Program) (w : well_formed P ≡ true) (X : State) where
  pub derives : Operator P.atoms (next P X)
  derives =
      record {
        mono = next_mono P X;
        bounded = λ L a e. let h = fires_out P.rules X L a e in subst (λ b. b < P.atoms) h.head (head_below P w h.rule h.stands);
      }

  pub derived_least : Least (next P X) (derived P X)
  unfolding derived least_model
  derived_least = iterate_least P.atoms (next P X) derives

  pub derived_within : (a : ℕ) → derived P X a ≡ true → a < P.atoms
  unfolding derived least_model
  derived_within a e = iterate_below P.atoms (next P X) derives P.atoms a e
