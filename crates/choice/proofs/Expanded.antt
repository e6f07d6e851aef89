-- Where a rule of an expanded program comes from; the program is well-formed, and without a choice rule it is what it was.
use mathlib.Core.Bool.{Bool, true, ◌&&◌, ◌||◌, and-true}
use mathlib.Core.List.Memᴰ
use mathlib.Core.List.{List, [], ◌∷◌, ◌++◌, map, flat_map, Memᴰ}
use mathlib.Core.Logic.{⊎_elim}
use mathlib.Core.Path.{◌≡◌, refl, sym, ◌∙◌, ap, subst}
use Prim.Native.Nat.{ℕ, suc, ◌+◌, ◌≤◌, ◌<◌}
use native.Mathlib.Omega.{arith}
use borrow.Author.Tests.{eqb-true, eq-eqb, ltb-true, lt-ltb}
use lib.Dec.{eqb, ltb}
use Rattle.lists.specs.Lists.{all, filter, below, member}
use Rattle.lists.proofs.Bools.{by_bool, bool_ext, and_intro, and_left, and_right, or_cases, or_left, or_right}
use Rattle.lists.proofs.Members.{all_at, all_intro, all_append, below_more, filter_out, flat_map_in, flat_map_out, member_out}
use Rattle.asp.specs.Program.{Body, Rule, body_below, rule_below, well_formed}
use Rattle.sheet.specs.Format.{kind_fits}
use Rattle.sheet.specs.Sheet.{Record, rule_in, adding, unless, record_rules, next_fresh, rules_of, constraints_of, choices, program_of}
use Rattle.sheet.specs.inner.Walk.{Sound, AllSound}
use Rattle.choice.specs.Claims.{plain_program}
use Rattle.choice.specs.inner.FreeRules.{is_rule}

-- A test of a list with an atom added.
pub all_adding : (p : ℕ → Bool) (a : ℕ) (l : List ℕ) → all p (adding a l) ≡ (all p l && p a)
unfolding adding all
all_adding p a l =
    by_bool (member a l) (λ t. rw t (bool_ext (λ e. and_intro e (all_at p l e a (member_out a l t))) (and_left (all p l) (p a))))
    (λ f. rw f (all_append p l (a ∷ []) ∙ ap (λ b. all p l && b) (and-true (p a))))

-- The head of a sound rule or choice rule is a written atom, and so is every atom of its body.
pub head_written : (n : ℕ) (r : Record) → Sound n r → is_rule r ≡ true → r.head < n
unfolding kind_fits
head_written n r S e =
    ⊎_elim (λ u. ⊎_elim (λ t. low (and_right (eqb r.kind 0) (ltb r.head n) t)) (λ t. absurd (not_one (and_left (eqb r.kind 1) (eqb r.head 0) t)))
    (or_cases (eqb r.kind 0 && ltb r.head n) (eqb r.kind 1 && eqb r.head 0) u))
    (λ t. low (and_right (eqb r.kind 2) (ltb r.head n) t))
    (or_cases (eqb r.kind 0 && ltb r.head n || eqb r.kind 1 && eqb r.head 0) (eqb r.kind 2 && ltb r.head n) S.kinds)
  where
    low : ltb r.head n ≡ true → r.head < n
    low = ltb-true r.head n

    not_one : eqb r.kind 1 ≡ true → ⊥
    not_one t =
        let q = eqb-true r.kind 1 t in
        ⊎_elim (λ t. let z = eqb-true r.kind 0 t in omega arith) (λ t. let z = eqb-true r.kind 2 t in omega arith) (or_cases (eqb r.kind 0) (eqb r.kind 2) e)

pub pos_written : (n : ℕ) (b : Body) → body_below n b ≡ true → below n b.pos ≡ true
unfolding body_below
pos_written n b = and_left (below n b.pos) (below n b.neg)

pub neg_written : (n : ℕ) (b : Body) → body_below n b ≡ true → below n b.neg ≡ true
unfolding body_below
neg_written n b = and_right (below n b.pos) (below n b.neg)

pub constraint_written : (n : ℕ) (rs : List Record) → AllSound n rs → (b : Body) → Memᴰ b (constraints_of rs) → body_below n b ≡ true
unfolding constraints_of
constraint_written n rs S b m =
    let u = Memᴰ.of_map (λ (r : Record). r.body) (filter (λ r. eqb r.kind 1) rs) m in
    let v = filter_out (λ (r : Record). eqb r.kind 1) rs u.0 u.1 in
    subst (λ b. body_below n b ≡ true) u.2 (S u.0 v.0).atoms

-- The records, each with the fresh atom that comes next at its place.
pub numbered : ℕ → List Record → List (Record × ℕ)
numbered f [] = []
numbered f (r ∷ rs) = (r, f) ∷ numbered (next_fresh f r) rs

next_choice : (f : ℕ) (r : Record) → r.kind ≡ 2 → next_fresh f r ≡ suc f
unfolding next_fresh
next_choice f r e = rw (eq-eqb r.kind 2 e) refl

next_atoms : (f : ℕ) (r : Record) (rs : List Record) → next_fresh f r + choices rs ≡ f + choices (r ∷ rs)
unfolding next_fresh choices filter
next_atoms f r rs = by_bool (eqb r.kind 2) (λ t. rw t (omega arith)) (λ e. rw e refl)

next_low : (f : ℕ) (r : Record) → f ≤ next_fresh f r
unfolding next_fresh
next_low f r = by_bool (eqb r.kind 2) (λ t. rw t (omega arith)) (λ e. rw e (omega arith))

-- What is known of a record and its number.
pub record Placed (f : ℕ) (rs : List Record) (r : Record) (g : ℕ) : Type 0 where
  pub stands : Memᴰ r rs
  pub low : f ≤ g
  pub high : r.kind ≡ 2 → g < f + choices rs

pub numbered_out : (f : ℕ) (rs : List Record) (r : Record) (g : ℕ) → Memᴰ (r, g) (numbered f rs) → Placed f rs r g
unfolding numbered
numbered_out f [] r g m = absurd (Memᴰ.not-nil m)
numbered_out f (d ∷ rs) r g m =
    ⊎_elim
    (λ e. let q = ap (λ (p : Record × ℕ). p.0) e in let z = ap (λ (p : Record × ℕ). p.1) e in
    record { stands = Memᴰ.head q; low = omega arith; high = λ k. omega (arith, next_atoms f d rs, next_choice f d (ap (λ (r : Record). r.kind) (sym q) ∙ k)) })
    (λ k. let P = numbered_out (next_fresh f d) rs r g k in
    record { stands = Memᴰ.tail P.stands; low = omega (arith, P.low, next_low f d); high = λ k. omega (arith, P.high k, next_atoms f d rs) })
    (Memᴰ.cases_cons m)

pub numbered_in : (f : ℕ) (rs : List Record) (r : Record) → Memᴰ r rs → (g : ℕ) × Memᴰ (r, g) (numbered f rs)
unfolding numbered
numbered_in f [] r m = absurd (Memᴰ.not-nil m)
numbered_in f (d ∷ rs) r m =
    ⊎_elim (λ e. (f, Memᴰ.head (ap (λ (x : Record). (x, f)) e))) (λ k. let u = numbered_in (next_fresh f d) rs r k in (u.0, Memᴰ.tail u.1)) (Memᴰ.cases_cons m)

-- A fresh atom is one record's.
pub numbered_one : (f : ℕ) (rs : List Record) (d e : Record) (g : ℕ) → d.kind ≡ 2 → e.kind ≡ 2 → Memᴰ (d, g) (numbered f rs) → Memᴰ (e, g) (numbered f rs) → d ≡ e
unfolding numbered
numbered_one f [] d e g p q m k = absurd (Memᴰ.not-nil m)
numbered_one f (r ∷ rs) d e g p q m k =
    ⊎_elim
    (λ x. ⊎_elim (λ y. ap (λ (p : Record × ℕ). p.0) (x ∙ sym y)) (λ y. absurd (apart d e p x y)) (Memᴰ.cases_cons k))
    (λ x. ⊎_elim (λ y. absurd (apart e d q y x)) (λ y. numbered_one (next_fresh f r) rs d e g p q x y) (Memᴰ.cases_cons k))
    (Memᴰ.cases_cons m)
  where
    apart : (d e : Record) → d.kind ≡ 2 → ◌≡◌ {A = Record × ℕ} (d, g) (r, f) → Memᴰ (e, g) (numbered (next_fresh f r) rs) → ⊥
    apart d e p x y =
        let z = ap (λ (p : Record × ℕ). p.1) x in
        omega (arith, (numbered_out (next_fresh f r) rs e g y).low, next_choice f r (ap (λ (p : Record × ℕ). p.0.kind) (sym x) ∙ p))

-- Where a rule of a record comes from, g being its fresh atom.
pub data Source (r : Record) (g : ℕ) (q : Rule) : Type 0 where
  plain : r.kind ≡ 0 → q ≡ rule_in r → Source r g q
  chosen : r.kind ≡ 2 → q ≡ unless r.head r.body g → Source r g q
  fresh : r.kind ≡ 2 → q ≡ unless g r.body r.head → Source r g q

source_out : (r : Record) (g : ℕ) (q : Rule) → Memᴰ q (record_rules g r) → Source r g q
unfolding record_rules
source_out r g q m =
    by_bool (eqb r.kind 0) (λ t. plain (eqb-true r.kind 0 t) (Memᴰ.eq_of_singleton (rw t at m)))
    (λ f. by_bool (eqb r.kind 2) (λ t. ⊎_elim (chosen (eqb-true r.kind 2 t)) (λ k. fresh (eqb-true r.kind 2 t) (Memᴰ.eq_of_singleton k)) (Memᴰ.cases_cons (rw (f, t) at m)))
    (λ e. absurd (Memᴰ.not-nil (rw (f, e) at m))))

source_in : (r : Record) (g : ℕ) (q : Rule) → Source r g q → Memᴰ q (record_rules g r)
unfolding record_rules
source_in r g q (plain k e) = rw k (Memᴰ.head e)
source_in r g q (chosen k e) = rw k (Memᴰ.head e)
source_in r g q (fresh k e) = rw k (Memᴰ.tail (Memᴰ.head e))

-- The rules of records are those of each record at its number.
abbrev rules_at : Record × ℕ → List Rule
rules_at p = record_rules p.1 p.0

rules_numbered : (f : ℕ) (rs : List Record) → rules_of f rs ≡ flat_map rules_at (numbered f rs)
unfolding rules_of numbered flat_map
rules_numbered f [] = refl
rules_numbered f (r ∷ rs) = ap (λ l. record_rules f r ++ l) (rules_numbered (next_fresh f r) rs)

pub rules_out : (f : ℕ) (rs : List Record) (q : Rule) → Memᴰ q (rules_of f rs) → (r : Record) × (g : ℕ) × Memᴰ (r, g) (numbered f rs) × Source r g q
rules_out f rs q m =
    let u = flat_map_out rules_at (numbered f rs) q (rw rules_numbered at m) in
    (u.0.0, u.0.1, u.1, source_out u.0.0 u.0.1 q u.2)

pub rules_in : (f : ℕ) (rs : List Record) (r : Record) (g : ℕ) (q : Rule) → Memᴰ (r, g) (numbered f rs) → Source r g q → Memᴰ q (rules_of f rs)
rules_in f rs r g q m s = rw rules_numbered (flat_map_in rules_at (numbered f rs) (r, g) q m (source_in r g q s))

-- What is known of a rule of the expanded program: n atoms are written, m there are.
pub record Formed (n m : ℕ) (q : Rule) : Type 0 where
  pub head : q.head < m
  pub positives : below n q.body.pos ≡ true
  pub negatives : below m q.body.neg ≡ true
  pub fresh_negatives : n ≤ q.head → below n q.body.neg ≡ true

adding_below : (n a : ℕ) (l : List ℕ) → a < n → below n l ≡ true → below n (adding a l) ≡ true
unfolding below
adding_below n a l h e = rw all_adding (and_intro e (lt-ltb a n h))

module _ (n : ℕ) (rs : List Record) (S : AllSound n rs) where
  abbrev m : ℕ
  m = n + choices rs

  pub rule_head : (r : Record) (g : ℕ) → Memᴰ (r, g) (numbered n rs) → r.kind ≡ 0 → r.head < n
  rule_head r g k e = head_written n r (S r (numbered_out n rs r g k).stands) (or_left (eqb r.kind 2) (eq-eqb r.kind 0 e))

  pub choice_head : (r : Record) (g : ℕ) → Memᴰ (r, g) (numbered n rs) → r.kind ≡ 2 → r.head < n
  choice_head r g k e = head_written n r (S r (numbered_out n rs r g k).stands) (or_right (eqb r.kind 0) (eq-eqb r.kind 2 e))

  source_formed : (r : Record) (g : ℕ) → Memᴰ (r, g) (numbered n rs) → (q : Rule) → Source r g q → Formed n m q
  unfolding unless
  source_formed r g k q s = by_source s
    where
      P : Placed n rs r g
      P = numbered_out n rs r g k

      A : body_below n r.body ≡ true
      A = (S r P.stands).atoms

      by_source : Source r g q → Formed n m q
      by_source (plain z e) =
          let l = rule_head r g k z in
          rw e (record {
            head = omega arith;
            positives = pos_written n r.body A;
            negatives = below_more n m r.body.neg (omega arith) (neg_written n r.body A);
            fresh_negatives = λ _. neg_written n r.body A;
          })
      by_source (chosen z e) =
          let l = choice_head r g k z in
          rw e (record {
            head = omega arith;
            positives = pos_written n r.body A;
            negatives = adding_below m g r.body.neg (P.high z) (below_more n m r.body.neg (omega arith) (neg_written n r.body A));
            fresh_negatives = λ h. absurd (omega arith);
          })
      by_source (fresh z e) =
          let l = choice_head r g k z in
          rw e (record {
            head = P.high z;
            positives = pos_written n r.body A;
            negatives = adding_below m r.head r.body.neg (omega arith) (below_more n m r.body.neg (omega arith) (neg_written n r.body A));
            fresh_negatives = λ _. adding_below n r.head r.body.neg l (neg_written n r.body A);
          })

  pub rule_formed : (q : Rule) → Memᴰ q (rules_of n rs) → Formed n m q
  rule_formed q k = let u = rules_out n rs q k in source_formed u.0 u.1 u.2 q u.3

  -- The program is well-formed.
  pub expanded_formed : well_formed (program_of n rs) ≡ true
  unfolding well_formed program_of rule_below body_below
  expanded_formed =
      and_intro
      (all_intro (rule_below m) (rules_of n rs) (λ q k. let F = rule_formed q k in
      and_intro (lt-ltb q.head m F.head) (and_intro (below_more n m q.body.pos (omega arith) F.positives) F.negatives)))
      (all_intro (body_below m) (constraints_of rs) (λ b k. let A = constraint_written n rs S b k in
      and_intro (below_more n m b.pos (omega arith) (pos_written n b A)) (below_more n m b.neg (omega arith) (neg_written n b A))))

-- Without a choice rule.
rules_plain : (n : ℕ) (rs : List Record) → choices rs ≡ 0 → rules_of n rs ≡ map rule_in (filter (λ r. eqb r.kind 0) rs)
unfolding rules_of choices filter record_rules next_fresh
rules_plain n [] e = refl
rules_plain n (r ∷ rs) e =
    by_bool (eqb r.kind 2) (λ t. absurd (let z = rw t at e in omega arith))
    (λ f. by_bool (eqb r.kind 0) (λ t. rw (t, f) (ap (λ l. rule_in r ∷ l) (rules_plain n rs (rw f at e)))) (λ z. rw (z, f) (rules_plain n rs (rw f at e))))

pub without_choices : (n : ℕ) (rs : List Record) → choices rs ≡ 0 → program_of n rs ≡ plain_program n rs
unfolding program_of plain_program
without_choices n rs e = let z : n + choices rs ≡ n = omega arith in rw (z, rules_plain n rs e) refl
