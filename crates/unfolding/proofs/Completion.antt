-- The models of the clauses: each copy is true just when a rule kept for it holds, each rule variable has the value of its body,
-- and no constraint's body holds. Nothing here knows of programs or sequences.
use mathlib.Core.Bool.{Bool, true, false, not, ◌&&◌, ◌||◌, cond, and-true, or-false, not-not}
use mathlib.Core.List.Memᴰ
use mathlib.Core.List.{List, [], ◌∷◌, ◌++◌, map, flat_map, Memᴰ}
use mathlib.Core.Logic.{⊎_elim}
use mathlib.Core.Path.{◌≡◌, refl, sym, ◌∙◌, ap, subst}
use Prim.Native.Nat.{ℕ, zero, suc, ◌+◌, ◌-◌, ◌≤◌, ◌<◌}
use native.Mathlib.Nat.{add-suc, add-zero, suc-add, not-suc-le-zero, le_of_suc-le-suc}
use native.Mathlib.Omega.{arith}
use borrow.Author.Tests.{le-leb, lt-leb, leb-true, leb-false}
use lib.Dec.{leb}
use lib.ListN.{length}
use Rattle.lists.specs.Lists.{all, any, range}
use Rattle.lists.proofs.Bools.{by_bool, true_false, bool_ext, and_intro, and_left, and_right, or_cases, or_left, or_right, not_intro, not_elim}
use Rattle.lists.proofs.Members.{all_map, all_cong, all_append, any_map, any_cong, flat_map_in}
use Rattle.asp.specs.Program.{Body, outside, holds}
use Rattle.unfolding.specs.Unfolded.{Copy, Unfolded}
use Rattle.unfolding.specs.Clauses.{Literal, positive, negative, negated, Clause, literals, rule_clauses, rules_clauses, copy_clauses, copies_clauses, constraint_clause, clauses, variables}
use Rattle.unfolding.specs.Faithful.{Assignment, value, is_model}
use Rattle.unfolding.proofs.Copies.{Solves}

-- The values of a body's literals.
module _ (M : Assignment) where
  value_negated : (l : Literal) → value M (negated l) ≡ not (value M l)
  unfolding value negated
  value_negated (positive v) = refl
  value_negated (negative v) = sym (not-not (M v))

  literals_hold : (b : Body) → all (value M) (literals b) ≡ holds M b
  unfolding literals holds outside value
  literals_hold b =
      all_append (value M) (map positive b.pos) (map negative b.neg)
      ∙ (ap (λ (x : Bool). x && all (value M) (map negative b.neg)) (all_map (value M) positive b.pos)
      ∙ ap (λ (x : Bool). all M b.pos && x) (all_map (value M) negative b.neg))

  any_not : {A : Type 0} (p : A → Bool) (l : List A) → any (λ x. not (p x)) l ≡ not (all p l)
  unfolding any all
  any_not p [] = refl
  any_not p (x ∷ l) = by_bool (p x) (λ t. rw t (any_not p l)) (λ f. rw f refl)

  -- A clause of a body negated.
  negated_value : (b : Body) → any (value M) (map negated (literals b)) ≡ not (holds M b)
  negated_value b =
      any_map (value M) negated (literals b)
      ∙ (any_cong (λ l. value M (negated l)) (λ l. not (value M l)) (literals b) (λ l _. value_negated l)
      ∙ (any_not (value M) (literals b) ∙ ap not (literals_hold b)))

  model_append : (cs ds : List Clause) → is_model M (cs ++ ds) ≡ (is_model M cs && is_model M ds)
  unfolding is_model
  model_append cs ds = all_append (any (value M)) cs ds

  -- The clauses of one rule: its variable has the value of its body, and the head follows from it.
  implied : (d : ℕ) (ls : List Literal) → is_model M (map (λ l. negative d ∷ l ∷ []) ls) ≡ (not (M d) || all (value M) ls)
  unfolding is_model any all value
  implied d [] = by_bool (M d) (λ t. rw t refl) (λ f. rw f refl)
  implied d (l ∷ ls) =
      by_bool (M d) (λ t. rw t (by_bool (value M l) (λ v. rw v (implied d ls ∙ rw t refl)) (λ v. rw v refl))) (λ f. rw f (implied d ls ∙ rw f refl))

  rule_value : (h d : ℕ) (b : Body) → is_model M (rule_clauses h d b) ≡ ((M h || not (M d)) && ((not (M d) || holds M b) && (M d || not (holds M b))))
  unfolding is_model any all value rule_clauses
  rule_value h d b =
      rw (or-false (not (M d)), all_append (any (value M)) (map (λ l. negative d ∷ l ∷ []) (literals b)) ((positive d ∷ map negated (literals b)) ∷ []), and-true (M d || any (value M) (map negated (literals b))), implied d (literals b), literals_hold b, negated_value b) refl

agree_out : (h d b : Bool) → ((h || not d) && ((not d || b) && (d || not b))) ≡ true → (d ≡ true → h ≡ true) × (d ≡ b)
agree_out true true true e = (λ _. refl, refl)
agree_out true true false e = (λ _. refl, sym e)
agree_out true false true e = (λ _. refl, e)
agree_out true false false e = (λ _. refl, refl)
agree_out false true b e = (λ _. e, absurd (true_false e refl))
agree_out false false true e = (λ d. d, e)
agree_out false false false e = (λ d. d, refl)

agree_in : (h d b : Bool) → (d ≡ true → h ≡ true) → d ≡ b → ((h || not d) && ((not d || b) && (d || not b))) ≡ true
agree_in true true true f e = refl
agree_in true true false f e = sym e
agree_in true false true f e = e
agree_in true false false f e = refl
agree_in false true b f e = f refl
agree_in false false true f e = e
agree_in false false false f e = refl

-- The rule variables from d on have the values of the bodies.
abbrev pub Tied : Assignment → ℕ → List Body → Type 0
Tied M d [] = Unit {0}
Tied M d (b ∷ bs) = (M d ≡ holds M b) × Tied M (suc d) bs

module _ (M : Assignment) where
  tied_any : (d : ℕ) (bs : List Body) → Tied M d bs → any M (range d (length bs)) ≡ any (holds M) bs
  unfolding any range
  tied_any d [] t = refl
  tied_any d (b ∷ bs) t = rw (t.0, tied_any (suc d) bs t.1) refl

  tied_append : (d : ℕ) (bs cs : List Body) → Tied M d bs → Tied M (d + length bs) cs → Tied M d (bs ++ cs)
  tied_append d [] cs t u = rw add-zero at u
  tied_append d (b ∷ bs) cs t u = (t.0, tied_append (suc d) bs cs t.1 (subst (λ k. Tied M k cs) (omega arith) u))

  tied_left : (d : ℕ) (bs cs : List Body) → Tied M d (bs ++ cs) → Tied M d bs
  tied_left d [] cs t = tt
  tied_left d (b ∷ bs) cs t = (t.0, tied_left (suc d) bs cs t.1)

  tied_right : (d : ℕ) (bs cs : List Body) → Tied M d (bs ++ cs) → Tied M (d + length bs) cs
  tied_right d [] cs t = subst (λ k. Tied M k cs) (omega arith) t
  tied_right d (b ∷ bs) cs t = subst (λ k. Tied M k cs) (omega arith) (tied_right (suc d) bs cs t.1)

  -- The rules of one copy.
  rules_out : (h d : ℕ) (bs : List Body) → is_model M (rules_clauses h d bs) ≡ true → Tied M d bs × (any M (range d (length bs)) ≡ true → M h ≡ true)
  unfolding rules_clauses any range
  rules_out h d [] e = (tt, λ f. absurd (true_false f refl))
  rules_out h d (b ∷ bs) e =
      let s = sym (model_append M (rule_clauses h d b) (rules_clauses h (suc d) bs)) ∙ e in
      let u = agree_out (M h) (M d) (holds M b) (sym (rule_value M h d b) ∙ and_left (is_model M (rule_clauses h d b)) (is_model M (rules_clauses h (suc d) bs)) s) in
      let r = rules_out h (suc d) bs (and_right (is_model M (rule_clauses h d b)) (is_model M (rules_clauses h (suc d) bs)) s) in
      ((u.1, r.0), λ f. ⊎_elim u.0 r.1 (or_cases (M d) (any M (range (suc d) (length bs))) f))

  rules_in : (h d : ℕ) (bs : List Body) → Tied M d bs → (any M (range d (length bs)) ≡ true → M h ≡ true) → is_model M (rules_clauses h d bs) ≡ true
  unfolding rules_clauses is_model all any range
  rules_in h d [] t f = refl
  rules_in h d (b ∷ bs) t f =
      model_append M (rule_clauses h d b) (rules_clauses h (suc d) bs)
      ∙ and_intro (rule_value M h d b ∙ agree_in (M h) (M d) (holds M b) (λ q. f (or_left (any M (range (suc d) (length bs))) q)) t.0)
      (rules_in h (suc d) bs t.1 (λ q. f (or_right (M d) q)))

  copy_value_lem : (d : ℕ) (c : Copy) → is_model M (copy_clauses d c) ≡ ((not (M c.var) || any M (range d (length c.kept))) && is_model M (rules_clauses c.var d c.kept))
  unfolding is_model copy_clauses all any value
  copy_value_lem d c = rw (any_map (value M) positive (range d (length c.kept))) refl

  copy_out : (d : ℕ) (c : Copy) → is_model M (copy_clauses d c) ≡ true → Tied M d c.kept × (M c.var ≡ any (holds M) c.kept)
  copy_out d c e =
      let h = M c.var in
      let r = any M (range d (length c.kept)) in
      let s = sym (copy_value_lem d c) ∙ e in
      let u = rules_out c.var d c.kept (and_right (not h || r) (is_model M (rules_clauses c.var d c.kept)) s) in
      let only = and_left (not h || r) (is_model M (rules_clauses c.var d c.kept)) s in
      (u.0, bool_ext (λ t. ⊎_elim (λ f. absurd (true_false t (not_elim f))) (λ q. q) (or_cases (not h) r only)) u.1 ∙ tied_any d c.kept u.0)

  copy_in : (d : ℕ) (c : Copy) → Tied M d c.kept → M c.var ≡ any (holds M) c.kept → is_model M (copy_clauses d c) ≡ true
  copy_in d c t e =
      let q = e ∙ sym (tied_any d c.kept t) in
      copy_value_lem d c
      ∙ and_intro (by_bool (M c.var) (λ h. or_right (not (M c.var)) (sym q ∙ h)) (λ f. or_left (any M (range d (length c.kept))) (not_intro f)))
      (rules_in c.var d c.kept t (λ r. q ∙ r))

  copies_out : (d : ℕ) (cs : List Copy) → is_model M (copies_clauses d cs) ≡ true → Tied M d (flat_map (λ c. c.kept) cs) × Solves M cs
  unfolding copies_clauses flat_map
  copies_out d [] e = (tt, λ c m. absurd (Memᴰ.not-nil m))
  copies_out d (c ∷ cs) e =
      let first = is_model M (copy_clauses d c) in
      let rest = is_model M (copies_clauses (d + length c.kept) cs) in
      let s : (first && rest) ≡ true = sym (model_append M (copy_clauses d c) (copies_clauses (d + length c.kept) cs)) ∙ e in
      let u = copy_out d c (and_left first rest s) in
      let r = copies_out (d + length c.kept) cs (and_right first rest s) in (
        tied_append d c.kept (flat_map (λ c. c.kept) cs) u.0 r.0,
        λ x m. ⊎_elim (λ q. subst (λ (c : Copy). M c.var ≡ any (holds M) c.kept) (sym q) u.1) (r.1 x) (Memᴰ.cases_cons m),
      )

  copies_in : (d : ℕ) (cs : List Copy) → Tied M d (flat_map (λ c. c.kept) cs) → Solves M cs → is_model M (copies_clauses d cs) ≡ true
  unfolding copies_clauses flat_map is_model all
  copies_in d [] t s = refl
  copies_in d (c ∷ cs) t s =
      model_append M (copy_clauses d c) (copies_clauses (d + length c.kept) cs)
      ∙ and_intro (copy_in d c (tied_left d c.kept (flat_map (λ c. c.kept) cs) t) (s c (Memᴰ.head refl)))
      (copies_in (d + length c.kept) cs (tied_right d c.kept (flat_map (λ c. c.kept) cs) t) (λ x m. s x (Memᴰ.tail m)))

  constraints_value : (bs : List Body) → is_model M (map constraint_clause bs) ≡ all (λ b. not (holds M b)) bs
  unfolding is_model constraint_clause
  constraints_value bs =
      all_map (any (value M)) constraint_clause bs ∙ all_cong (λ b. any (value M) (map negated (literals b))) (λ b. not (holds M b)) bs (λ b _. negated_value M b)

-- All bodies of an unfolded program.
abbrev pub bodies : Unfolded → List Body
bodies U = flat_map (λ c. c.kept) U.copies

-- What it is to be a model of the clauses.
pub record Models (M : Assignment) (U : Unfolded) : Type 0 where
  tied : Tied M (suc (length U.copies)) (bodies U)
  pub solves : Solves M U.copies
  pub lawful : all (λ b. not (holds M b)) U.constraints ≡ true

pub models_out : (M : Assignment) (U : Unfolded) → is_model M (clauses U) ≡ true → Models M U
unfolding clauses
models_out M U e =
    let d = suc (length U.copies) in
    let first = is_model M (copies_clauses d U.copies) in
    let rest = is_model M (map constraint_clause U.constraints) in
    let s : (first && rest) ≡ true = sym (model_append M (copies_clauses d U.copies) (map constraint_clause U.constraints)) ∙ e in
    let u = copies_out M d U.copies (and_left first rest s) in
    record { tied = u.0; solves = u.1; lawful = sym (constraints_value M U.constraints) ∙ and_right first rest s }

pub models_in : (M : Assignment) (U : Unfolded) → Models M U → is_model M (clauses U) ≡ true
unfolding clauses
models_in M U m =
    let d = suc (length U.copies) in
    model_append M (copies_clauses d U.copies) (map constraint_clause U.constraints)
    ∙ and_intro (copies_in M d U.copies m.tied m.solves) (constraints_value M U.constraints ∙ m.lawful)

-- The body names variables of 1 .. k only.
pub record Names (k : ℕ) (b : Body) : Type 0 where
  pub pos : (v : ℕ) → Memᴰ v b.pos → (1 ≤ v) × (v ≤ k)
  pub neg : (v : ℕ) → Memᴰ v b.neg → (1 ≤ v) × (v ≤ k)

abbrev pub Agree : ℕ → Assignment → Assignment → Type 0
Agree k M M' = (v : ℕ) → 1 ≤ v → v ≤ k → M v ≡ M' v

holds_agree : (k : ℕ) (M M' : Assignment) → Agree k M M' → (b : Body) → Names k b → holds M b ≡ holds M' b
unfolding holds outside
holds_agree k M M' g b n =
    ap (λ (x : Bool). x && all (λ v. not (M v)) b.neg) (all_cong M M' b.pos (λ v m. let u = n.pos v m in g v u.0 u.1))
    ∙ ap (λ (x : Bool). all M' b.pos && x) (all_cong (λ v. not (M v)) (λ v. not (M' v)) b.neg (λ v m. let u = n.neg v m in ap not (g v u.0 u.1)))

-- The values of the bodies in order.
extra : Assignment → List Body → ℕ → Bool
extra M [] i = false
extra M (b ∷ bs) zero = holds M b
extra M (b ∷ bs) (suc i) = extra M bs i

-- An assignment of the copies with the rule variables added.
pub extend : ℕ → List Body → Assignment → Assignment
extend t bs M v = cond (leb v t) (M v) (extra M bs (v - suc t))

pub extend_agrees : (t : ℕ) (bs : List Body) (M : Assignment) → Agree t (extend t bs M) M
unfolding extend
extend_agrees t bs M v _ l = rw (le-leb v t l) refl

extend_tied : (t : ℕ) (all : List Body) (M : Assignment) (d : ℕ) (bs : List Body) → ((i : ℕ) → extend t all M (d + i) ≡ extra M bs i)
    → ((b : Body) → Memᴰ b bs → Names t b) → Tied (extend t all M) d bs
unfolding extra
extend_tied t all M d [] h n = tt
extend_tied t all M d (b ∷ bs) h n = (
  rw add-zero at (h 0) ∙ sym (holds_agree t (extend t all M) M (extend_agrees t all M) b (n b (Memᴰ.head refl))),
  extend_tied t all M (suc d) bs (λ i. ap (extend t all M) (suc-add d i ∙ sym (add-suc d i)) ∙ h (suc i)) (λ c m. n c (Memᴰ.tail m)),
)

extend_extra : (t : ℕ) (bs : List Body) (M : Assignment) (i : ℕ) → extend t bs M (suc t + i) ≡ extra M bs i
unfolding extend
extend_extra t bs M i = rw (lt-leb (suc t + i) t (omega arith)) (ap (extra M bs) (omega arith))

tied_agree : (k : ℕ) (M M' : Assignment) → Agree k M M' → (d : ℕ) (bs : List Body) → Tied M d bs → Tied M' d bs → ((b : Body) → Memᴰ b bs → Names k b)
    → (i : ℕ) → i < length bs → M (d + i) ≡ M' (d + i)
tied_agree k M M' g d [] t u n i l = absurd (not-suc-le-zero l)
tied_agree k M M' g d (b ∷ bs) t u n zero l =
    ap M (add-zero d) ∙ (t.0 ∙ (holds_agree k M M' g b (n b (Memᴰ.head refl)) ∙ (sym u.0 ∙ ap M' (sym (add-zero d)))))
tied_agree k M M' g d (b ∷ bs) t u n (suc i) l =
    let e : d + suc i ≡ suc d + i = omega arith in
    ap M e ∙ (tied_agree k M M' g (suc d) bs t.1 u.1 (λ c m. n c (Memᴰ.tail m)) i (le_of_suc-le-suc l) ∙ ap M' (sym e))

-- Where every body names copies only.
module _ (U : Unfolded) (named : (b : Body) → Memᴰ b (bodies U) → Names (length U.copies) b) where
  -- An assignment that solves the copies extends to a model.
  pub extend_models : (M : Assignment) → ((c : Copy) → Memᴰ c U.copies → (1 ≤ c.var) × (c.var ≤ length U.copies))
      → ((b : Body) → Memᴰ b U.constraints → Names (length U.copies) b)
      → Solves M U.copies → all (λ b. not (holds M b)) U.constraints ≡ true → Models (extend (length U.copies) (bodies U) M) U
  extend_models M vars cons s l =
      let n = length U.copies in
      let E = extend n (bodies U) M in
      let g = extend_agrees n (bodies U) M in
      record {
        tied = extend_tied n (bodies U) M (suc n) (bodies U) (extend_extra n (bodies U) M) named;
        solves = λ c m. let u = vars c m in
            g c.var u.0 u.1
            ∙ (s c m ∙ any_cong (holds M) (holds E) c.kept (λ b k. sym (holds_agree n E M g b (named b (flat_map_in (λ (c : Copy). c.kept) U.copies c b m k)))));
        lawful = all_cong (λ b. not (holds E b)) (λ b. not (holds M b)) U.constraints (λ b m. ap not (holds_agree n E M g b (cons b m))) ∙ l;
      }

  -- Two models that agree on the copies agree on every variable.
  pub models_agree : (M M' : Assignment) → Models M U → Models M' U → Agree (length U.copies) M M' → Agree (variables U) M M'
  unfolding variables
  models_agree M M' m m' g v low high =
      by_bool (leb v n) (λ t. g v low (leb-true v n t))
      (λ f. let above = leb-false v n f in
      let e : suc n + (v - suc n) ≡ v = omega arith in
      subst (λ x. M x ≡ M' x) e (tied_agree n M M' g (suc n) (bodies U) m.tied m'.tied named (v - suc n) (omega arith)))
    where
      n : ℕ
      n = length U.copies
