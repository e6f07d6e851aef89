-- Normal logic programs over the atoms 0, 1 .. n - 1, and when a body holds in a state.
use Rattle.std.specs.Prelude.{Bool, not, ◌&&◌, List, ℕ, ltb}
use Rattle.lists.specs.Lists.{all, below}

-- The positive and the negative atoms of a rule or a constraint.
pub record Body : Type 0 where
  pub pos : List ℕ
  pub neg : List ℕ

-- A kind 0 rule.
pub record Rule : Type 0 where
  pub head : ℕ
  pub body : Body

-- The number of atoms n, the rules and the constraints, in sheet order.
pub record Program : Type 0 where
  pub atoms : ℕ
  pub rules : List Rule
  pub constraints : List Body

-- A state: a set of atoms.
abbrev pub State : Type 0
State = ℕ → Bool

-- The atoms are all outside the state.
unfoldable pub outside : State → List ℕ → Bool
outside X l = all (λ a. not (X a)) l

-- All positive atoms are in and all negative atoms are out.
unfoldable pub holds : State → Body → Bool
holds X b = all X b.pos && outside X b.neg

-- The atoms of the body are 0 to n - 1.
unfoldable pub body_below : ℕ → Body → Bool
body_below n b = below n b.pos && below n b.neg

-- So are the head and the body of the rule.
unfoldable pub rule_below : ℕ → Rule → Bool
rule_below n r = ltb r.head n && body_below n r.body

-- Every atom that the program names is one of its atoms.
unfoldable pub well_formed : Program → Bool
well_formed P = all (rule_below P.atoms) P.rules && all (body_below P.atoms) P.constraints
