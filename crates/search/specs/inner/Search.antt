-- What the search over decisions promises.
use Rattle.std.specs.Prelude.{Bool, true, false, not, ◌&&◌, ◌||◌, cond, Option, MatchOption, ◌⊎◌, ◌≡◌, ℕ, ◌^◌, ◌≤◌, ◌<◌, length}
use mathlib.Core.List.{List, Memᴰ}
use Rattle.lists.specs.Lists.{filter, range}
use Rattle.asp.specs.Program.{Body}
use Rattle.asp.specs.LeastModel.{Inside}
use Rattle.bits.specs.inner.Sets.{has, Subset}
use Rattle.search.specs.inner.Decided.{CountRule, count_by}
use Rattle.search.specs.inner.Rules.{Masks, HeldRules, HeldBodies, Lawful, Bound, bound}
use Rattle.search.specs.declared.Sizes.{Sizes}
use Rattle.search.specs.declared.Decisions.{Decisions}
use Rattle.search.specs.declared.Side.TheVariants.{Sure, Possible}

-- The rules that surely apply under the decisions, and those that possibly do.
abbrev pub lower : Decisions → Bound
lower d = bound Sure d

abbrev pub upper : Decisions → Bound
upper d = bound Possible d

-- Other decisions on the same atoms.
abbrev pub deciding : Decisions → ℕ → ℕ → Decisions
deciding d ins outs = record { atoms = d.atoms; ins = ins; outs = outs }

-- The atom is to be decided, and neither in nor out.
abbrev pub is_open : Decisions → ℕ → Bool
is_open d a = has d.atoms a && not (has d.ins a || has d.outs a)

-- How many atoms are still to be decided.
unfoldable pub undecided : Decisions → ℕ
undecided d = length (filter (is_open d) (range 0 64))

-- The rule asks for the atom: it is negative in the rule, or the head of a free one.
abbrev pub asks : CountRule → ℕ → Type 0
asks r a = Memᴰ a r.rule.body.neg ⊎ ((r.free ≡ true) × (a ≡ r.rule.head))

-- The stable models that agree with the decisions, counted.
abbrev pub agreeing : ℕ → List CountRule → List Body → Decisions → ℕ
agreeing n rs cs d = count_by n rs cs (has d.ins) (has d.outs)

-- The masks hold the rules and constraints of n atoms; every atom that a rule asks for is to be decided.
pub record Task (n : ℕ) (rs : List CountRule) (cs : List Body) (M : Masks) (d : Decisions) : Type 0 where
  pub rules : HeldRules rs M
  pub bodies : HeldBodies cs M.records M.sizes
  pub heads_low : (r : CountRule) → Memᴰ r rs → r.rule.head < n
  pub negs_low : (r : CountRule) → Memᴰ r rs → (a : ℕ) → Memᴰ a r.rule.body.neg → a < n
  pub known : (r : CountRule) → Memᴰ r rs → (a : ℕ) → asks r a → has d.atoms a ≡ true
  pub low : (a : ℕ) → has d.atoms a ≡ true → a < n
  pub ins_low : (a : ℕ) → has d.ins a ≡ true → a < n
  pub apart : (a : ℕ) → has d.ins a ≡ true → has d.outs a ≡ false

-- One candidate: whether it has the atoms decided in, and whether it breaks no constraint.
pub record Leaf (t : List ℕ) (s : Sizes) (ins l r : ℕ) : Type 0 where
  pub holds_in : Bool
  pub asked : Subset ins l holds_in
  pub obeys : Bool
  pub tested : holds_in ≡ true → Lawful t s l obeys
  pub is : r ≡ cond holds_in (cond obeys 1 0) 0

-- With everything decided the stable model that agrees is counted, if there is one.
pub record Last (M : Masks) (d : Decisions) (r : ℕ) : Type 0 where
  pub is : (n : ℕ) (rs : List CountRule) (cs : List Body) → Task n rs cs M d
      → ((a : ℕ) → has d.atoms a ≡ true → (has d.ins a || has d.outs a) ≡ true) → r ≡ agreeing n rs cs d
  pub small : r ≤ 1

-- No stable model of any task of these masks agrees with the decisions.
pub record Refuted (M : Masks) (d : Decisions) : Type 0 where
  pub is : (n : ℕ) (rs : List CountRule) (cs : List Body) → Task n rs cs M d → agreeing n rs cs d ≡ 0

-- The stable models that agree with the decisions are those that agree with what follows from them.
pub record SameModels (n : ℕ) (rs : List CountRule) (cs : List Body) (M : Masks) (d p : Decisions) : Type 0 where
  pub same : agreeing n rs cs d ≡ agreeing n rs cs p
  pub task : Task n rs cs M p

-- So for every task of these masks, and nothing that was decided is lost.
pub record Follows (M : Masks) (d p : Decisions) : Type 0 where
  pub is : (n : ℕ) (rs : List CountRule) (cs : List Body) → Task n rs cs M d → SameModels n rs cs M d p
  pub atoms : p.atoms ≡ d.atoms
  pub more_ins : Inside (has d.ins) (has p.ins)
  pub more_outs : Inside (has d.outs) (has p.outs)

-- What follows from decisions, or that no stable model agrees.
abbrev pub Propagated : Masks → Decisions → Option Decisions → Type 0
Propagated M d p = MatchOption p (Refuted M d) (Follows M d)

-- One round, after which no atom that was out is not.
pub record RoundTo (M : Masks) (d p : Decisions) : Type 0 where
  pub follows : Follows M d p
  pub grows : d.outs ≤ p.outs
  pub fits : p.outs < 2 ^ 64

-- One round of it.
abbrev pub Round : Masks → Decisions → Option Decisions → Type 0
Round M d p = MatchOption p (Refuted M d) (RoundTo M d)

-- The set has the atom.
pub record Member (x r : ℕ) : Type 0 where
  pub low : r < 64
  pub inside : has x r ≡ true

-- The stable models that agree with the decisions are counted.
pub record Counted (M : Masks) (d : Decisions) (r : ℕ) : Type 0 where
  pub is : (n : ℕ) (rs : List CountRule) (cs : List Body) → Task n rs cs M d → r ≡ agreeing n rs cs d
  pub small : r ≤ 2 ^ undecided d
