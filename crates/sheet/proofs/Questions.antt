-- Laws of questions: what follows a yes and what a no, and lists of questions.
use mathlib.Core.Bool.{Bool, true, false}
use mathlib.Core.List.{List, [], ◌∷◌, ◌++◌}
use mathlib.Core.Path.{◌≡◌, refl, sym, ◌∙◌, ap}
use Prim.Native.Nat.{ℕ, ◌<◌}
use native.Mathlib.Omega.{arith}
use borrow.Author.Tests.{eqb-true, eqb-false, eq-eqb, ne_eqb}
use lib.Dec.{eqb}
use Rattle.lists.specs.Lists.{all}
use Rattle.lists.proofs.Bools.{by_bool, true_false, and_intro, and_left, and_right}
use Rattle.sheet.specs.Questions.{ask, ◌then◌, first_refusal, AllYes, FirstNo}

pub ask_no : {b : Bool} → b ≡ false → (q r : ℕ) → (q ≡ 0 → ⊥) → ask b q then r ≡ q
unfolding ask ◌then◌
ask_no e q r h = rw e (rw (ne_eqb q 0 h) refl)

pub ask_yes : {b : Bool} → b ≡ true → (q r : ℕ) → ask b q then r ≡ r
unfolding ask ◌then◌
ask_yes e q r = rw e refl

pub then_zero : (q r : ℕ) → q ≡ 0 → q then r ≡ r
unfolding ◌then◌
then_zero q r e = rw e refl

pub then_refused : (q r : ℕ) → (q ≡ 0 → ⊥) → q then r ≡ q
unfolding ◌then◌
then_refused q r h = rw (ne_eqb q 0 h) refl

-- Questions that are all passed.
pub asked_yes : (b : Bool) (q r : ℕ) → (q ≡ 0 → ⊥) → ask b q then r ≡ 0 → (b ≡ true) × (r ≡ 0)
unfolding ask ◌then◌
asked_yes true q r h e = (refl, e)
asked_yes false q r h e = absurd (h (sym (rw (ne_eqb q 0 h) refl) ∙ e))

pub ask_passed : (b : Bool) (q : ℕ) → (q ≡ 0 → ⊥) → ask b q ≡ 0 → b ≡ true
unfolding ask
ask_passed true q h e = refl
ask_passed false q h e = absurd (h e)

pub ask_refused : (b : Bool) (q k : ℕ) → k ≡ ask b q → 0 < k → b ≡ false
unfolding ask
ask_refused true q k e l = absurd (omega arith)
ask_refused false q k e l = refl

pub then_passed : (q r : ℕ) → q then r ≡ 0 → (q ≡ 0) × (r ≡ 0)
unfolding ◌then◌
then_passed q r e = by_bool (eqb q 0) (λ t. (eqb-true q 0 t, rw t at e)) (λ f. let z : q ≡ 0 = rw f at e in absurd (true_false (eq-eqb q 0 z) f))

-- The first no of three, asked in any grouping.
pub then_assoc : (a b c : ℕ) → (a then b) then c ≡ a then (b then c)
unfolding ◌then◌
then_assoc a b c = by_bool (eqb a 0) (λ t. rw t refl) (λ f. rw f (rw f refl))

-- Lists of questions.
pub then_none : (k : ℕ) → k then 0 ≡ k
unfolding ◌then◌
then_none k = by_bool (eqb k 0) (λ t. rw t (sym (eqb-true k 0 t))) (λ f. rw f refl)

pub first_append : (a b : List ℕ) → first_refusal (a ++ b) ≡ first_refusal a then first_refusal b
unfolding first_refusal ◌then◌
first_append [] b = refl
first_append (k ∷ a) b = ap (λ r. k then r) (first_append a b) ∙ sym (then_assoc k (first_refusal a) (first_refusal b))

pub first_yes : (asked : List ℕ) → first_refusal asked ≡ 0 → AllYes asked
unfolding first_refusal ◌then◌ all
first_yes [] e = refl
first_yes (k ∷ asked) e =
    by_bool (eqb k 0) (λ t. and_intro t (first_yes asked (rw t at e)))
    (λ f. absurd (eqb-false k 0 f (rw f at e)))

pub yes_first : (asked : List ℕ) → AllYes asked → first_refusal asked ≡ 0
unfolding first_refusal all
yes_first [] e = refl
yes_first (k ∷ asked) e =
    then_zero k (first_refusal asked) (eqb-true k 0 (and_left (eqb k 0) (all (λ k. eqb k 0) asked) e))
    ∙ yes_first asked (and_right (eqb k 0) (all (λ k. eqb k 0) asked) e)

pub first_no : (asked : List ℕ) (k : ℕ) → first_refusal asked ≡ k → (k ≡ 0 → ⊥) → FirstNo asked k
unfolding first_refusal ◌then◌ all
first_no [] k e ne = absurd (ne (sym e))
first_no (j ∷ asked) k e ne =
    by_bool (eqb j 0)
    (λ t.
    let F = first_no asked k (rw t at e) ne in
    record { before = j ∷ F.before; after = F.after; is = ap (λ l. j ∷ l) F.is; yeses = and_intro t F.yeses; nonzero = F.nonzero })
    (λ f.
    let same : j ≡ k = rw f at e in
    record { before = []; after = asked; is = ap (λ j. j ∷ asked) same; yeses = refl; nonzero = omega (arith, ne) })

pub no_first : (asked : List ℕ) (k : ℕ) → FirstNo asked k → first_refusal asked ≡ k
unfolding first_refusal
no_first asked k F =
    let ne : k ≡ 0 → ⊥ = λ z. (let p = F.nonzero in omega arith) in
    ap first_refusal F.is
    ∙ (first_append F.before (k ∷ F.after)
    ∙ (then_zero (first_refusal F.before) _ (yes_first F.before F.yeses) ∙ then_refused k (first_refusal F.after) ne))
