-- Questions, asked in a list: the first no decides. An answer is 0 for a yes, and for a no the question's number.
use Rattle.std.specs.Prelude.{Bool, true, cond, List, [], ◌∷◌, ◌++◌, ◌≡◌, ℕ, ◌<◌, eqb}
use Rattle.lists.specs.Lists.{all}

-- The question with this answer and this number.
unfoldable pub ask : Bool → ℕ → ℕ
ask yes-answer number = cond yes-answer 0 number

-- The refusal of the questions asked so far, or else of those that follow.
infixr 20 ◌then◌
unfoldable pub ◌then◌ : ℕ → ℕ → ℕ
q then r = cond (eqb q 0) r q

-- The refusal of a list of questions: the first no, 0 where there is none.
unfoldable pub first_refusal : List ℕ → ℕ
first_refusal [] = 0
first_refusal (q ∷ asked) = q then first_refusal asked

-- All are answered by a yes.
abbrev pub AllYes : List ℕ → Type 0
AllYes asked = all (λ q. eqb q 0) asked ≡ true

-- k is the number of the first that is answered by a no.
pub record FirstNo (asked : List ℕ) (k : ℕ) : Type 0 where
  pub before : List ℕ
  pub after : List ℕ
  pub is : asked ≡ before ++ (k ∷ after)
  pub yeses : AllYes before
  pub nonzero : 0 < k
