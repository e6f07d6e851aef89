-- Answer sets as document 000 defines them (section 2, Preliminaries).
use Rattle.std.specs.Prelude.{Bool, true, not, ◌||◌, List, [], ◌∷◌, ◌++◌, map, ◌≡◌, ℕ, suc, ◌<◌, eqb}
use Rattle.lists.specs.Lists.{all, any, filter, member}
use Rattle.asp.specs.Program.{Body, Rule, Program, State, holds}
use Rattle.asp.specs.LeastModel.{Inside}

-- The interpretation satisfies the rule: its head is in, or a positive atom is out, or a negative atom is in.
unfoldable pub satisfies : State → Rule → Bool
satisfies I r = I r.head || any (λ a. not (I a)) r.body.pos || any I r.body.neg

-- The reduct (in the literature the FLP reduct): the rules whose positive atoms are all in and whose negative atoms are all out, each kept whole.
unfoldable pub flp_reduct : State → List Rule → List Rule
flp_reduct I rs = filter (λ r. holds I r.body) rs

-- An answer set of the rules over n variables: a ⊆-minimal satisfying interpretation of its reduct.
pub record AnswerSet (n : ℕ) (rs : List Rule) (I : State) : Type 0 where
  pub within : (a : ℕ) → I a ≡ true → a < n
  pub model : all (satisfies I) (flp_reduct I rs) ≡ true
  pub minimal : (J : State) → Inside J I → all (satisfies J) (flp_reduct I rs) ≡ true → Inside I J

-- A constraint is a rule for ⊥ with `not ⊥` added.
unfoldable pub bottom_rule : ℕ → Body → Rule
bottom_rule ⊥ₙ b = record { head = ⊥ₙ; body = record { pos = b.pos; neg = b.neg ++ (⊥ₙ ∷ []) } }

-- The program in document 000's form: rules alone, ⊥ being one variable more.
unfoldable pub normal_rules : Program → List Rule
normal_rules P = P.rules ++ map (bottom_rule P.atoms) P.constraints

-- An answer set of the program.
abbrev pub IsAnswerSet : Program → State → Type 0
IsAnswerSet P I = AnswerSet (suc P.atoms) (normal_rules P) I

-- Document 000's A(Π): the variables that occur in the rules.
unfoldable pub occurring : List Rule → State
occurring rs a = any (λ r. eqb r.head a || member a r.body.pos || member a r.body.neg) rs

-- An answer set over the variables that occur: every interpretation, the smaller ones too, is a set of these.
pub record OccurringAnswerSet (rs : List Rule) (I : State) : Type 0 where
  pub within : Inside I (occurring rs)
  pub model : all (satisfies I) (flp_reduct I rs) ≡ true
  pub minimal : (J : State) → Inside J (occurring rs) → Inside J I → all (satisfies J) (flp_reduct I rs) ≡ true → Inside I J
