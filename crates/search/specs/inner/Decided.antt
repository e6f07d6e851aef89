-- Counting by decisions: some atoms are decided to be in, some to be out. The rules of a count may be marked free: a free rule
-- applies only in states that hold its head. Choice rules are free.
use Rattle.std.specs.Prelude.{Bool, not, ◌&&◌, ◌||◌, List, map, ℕ, length}
use Rattle.std.specs.Bool.{beq}
use Rattle.lists.specs.Lists.{all, filter, range}
use Rattle.asp.specs.Program.{Body, Rule, State, outside, holds}
use Rattle.asp.specs.LeastModel.{Definite, least_model}
use Rattle.asp.specs.StableModel.{definite}
use Rattle.asp.specs.Count.{states}

-- A rule of a count.
pub record CountRule : Type 0 where
  pub rule : Rule
  pub free : Bool

-- The definite rules of those that pass a test.
abbrev pub definites : (CountRule → Bool) → List CountRule → List Definite
definites p rs = map (λ r. definite r.rule) (filter p rs)

-- The rule applies in X.
abbrev pub applies : State → CountRule → Bool
applies X r = outside X r.rule.body.neg && (not r.free || X r.rule.head)

-- X is the least model of the rules that apply in it and breaks no constraint.
unfoldable pub is_stable_by : ℕ → List CountRule → List Body → State → Bool
is_stable_by n rs cs X = all (λ a. beq (X a) (least_model n (definites (applies X) rs) a)) (range 0 n) && all (λ b. not (holds X b)) cs

-- The state agrees with the decisions: it has what is in, and nothing of what is out.
unfoldable pub agrees : ℕ → State → State → State → Bool
agrees n i o X = all (λ a. (not (i a) || X a) && (not (o a) || not (X a))) (range 0 n)

-- The rule applies in every state that agrees.
abbrev pub surely : State → State → CountRule → Bool
surely i o r = all o r.rule.body.neg && (not r.free || i r.rule.head)

-- The rule applies in some state that may agree.
abbrev pub possibly : State → State → CountRule → Bool
possibly i o r = outside i r.rule.body.neg && (not r.free || not (o r.rule.head))

-- The stable models that agree with the decisions, counted.
unfoldable pub count_by : ℕ → List CountRule → List Body → State → State → ℕ
count_by n rs cs i o = length (filter (λ X. is_stable_by n rs cs X && agrees n i o X) (states n))
