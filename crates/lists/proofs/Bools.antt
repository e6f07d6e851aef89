-- Case analysis on computed Bools.
use mathlib.Core.Bool.{Bool, true, false, not, ◌&&◌, ◌||◌, true≢false, false≢true, and-eq-true_iff}
use mathlib.Core.Logic.{◌⊎◌, inl, inr}
use mathlib.Core.Path.{◌≡◌, refl, sym, ◌∙◌}

-- Both cases of a computed Bool, each with its equation.
pub by_bool : {C : Type 0} (b : Bool) → (b ≡ true → C) → (b ≡ false → C) → C
by_bool true t f = t refl
by_bool false t f = f refl

pub true_false : {b : Bool} → b ≡ true → b ≡ false → ⊥
true_false t f = true≢false (sym t ∙ f)

pub is_false : {b : Bool} → (b ≡ true → ⊥) → b ≡ false
is_false {b = true} h = absurd (h refl)
is_false {b = false} h = refl

pub is_true : {b : Bool} → (b ≡ false → ⊥) → b ≡ true
is_true {b = true} h = refl
is_true {b = false} h = absurd (h refl)

pub bool_ext : {a b : Bool} → (a ≡ true → b ≡ true) → (b ≡ true → a ≡ true) → a ≡ b
bool_ext {a = true} {b} f g = sym (f refl)
bool_ext {a = false} {b} f g = sym (is_false (λ e. false≢true (g e)))

pub and_intro : {a b : Bool} → a ≡ true → b ≡ true → (a && b) ≡ true
and_intro {a} {b} p q = (and-eq-true_iff a b).1 (p, q)

pub and_left : (a b : Bool) → (a && b) ≡ true → a ≡ true
and_left a b e = ((and-eq-true_iff a b).0 e).0

pub and_right : (a b : Bool) → (a && b) ≡ true → b ≡ true
and_right a b e = ((and-eq-true_iff a b).0 e).1

pub or_cases : (a b : Bool) → (a || b) ≡ true → (a ≡ true) ⊎ (b ≡ true)
or_cases true b e = inl refl
or_cases false b e = inr e

pub or_left : {a : Bool} (b : Bool) → a ≡ true → (a || b) ≡ true
or_left {a = true} b e = refl
or_left {a = false} b e = absurd (false≢true e)

pub or_right : (a : Bool) {b : Bool} → b ≡ true → (a || b) ≡ true
or_right true e = refl
or_right false e = e

pub not_intro : {b : Bool} → b ≡ false → not b ≡ true
not_intro {b = true} e = sym e
not_intro {b = false} e = refl

pub not_elim : {b : Bool} → not b ≡ true → b ≡ false
not_elim {b = true} e = sym e
not_elim {b = false} e = refl
