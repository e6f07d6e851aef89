-- The rules and constraints of a count in a table of masks, in any order, and what the steps of a least model promise.
use Rattle.std.specs.Prelude.{Bool, true, false, not, ◌&&◌, ◌⊎◌, ◌≡◌, ℕ, ◌+◌, ◌≤◌, ◌<◌, eqb, get_or}
use mathlib.Core.List.{List, Memᴰ}
use Rattle.lists.specs.Lists.{all, member}
use Rattle.asp.specs.Program.{Body, State, holds}
use Rattle.asp.specs.LeastModel.{consequences, Inside}
use Rattle.asp.specs.Least.{Closed}
use Rattle.bits.specs.inner.Sets.{has}
use Rattle.tables.specs.inner.Rows.{row_at}
use Rattle.search.specs.inner.Decided.{CountRule, definites, surely, possibly}
use Rattle.search.specs.declared.Sizes.{Sizes}
use Rattle.search.specs.declared.Decisions.{Decisions}
use Rattle.search.specs.declared.Side.{Side}
use Rattle.search.specs.declared.Side.TheVariants.{Sure, Possible}

-- Rules, and behind them constraints, as a table's records, and for each rule its head again where it is free.
pub record Masks : Type 0 where
  pub records : List ℕ
  pub gate : List ℕ
  pub sizes : Sizes

-- The masks in two arrays.
abbrev pub in_arrays : List ℕ → List ℕ → Sizes → Masks
in_arrays records gate sizes = record { records = records; gate = gate; sizes = sizes }

-- The masks hold the body: its positive and its negative atoms.
pub record BodyMatches (b : Body) (pos neg : ℕ) : Type 0 where
  pub positives : (a : ℕ) → has pos a ≡ member a b.pos
  pub negatives : (a : ℕ) → has neg a ≡ member a b.neg

-- The masks hold the rule: its head, its body, and its head again if it is free.
pub record Matches (r : CountRule) (head pos neg gate : ℕ) : Type 0 where
  pub heads : head ≡ r.rule.head
  pub body : BodyMatches r.rule.body pos neg
  pub gates : (b : ℕ) → has gate b ≡ (r.free && eqb b r.rule.head)

-- The body at an index, and the rule.
abbrev pub BodyAt : List ℕ → Body → ℕ → Type 0
BodyAt t b j = BodyMatches b (row_at t j).pos (row_at t j).neg

abbrev pub RuleAt : Masks → CountRule → ℕ → Type 0
RuleAt M r j = Matches r (row_at M.records j).head (row_at M.records j).pos (row_at M.records j).neg (get_or M.gate j 0)

-- The k indices from the j-th on hold the members of the list, each at least once and nothing else.
pub record Held {A : Type 0} (At : A → ℕ → Type 0) (l : List A) (j k : ℕ) : Type 0 where
  pub sound : (i : ℕ) → j ≤ i → i < j + k → (x : A) × Memᴰ x l × At x i
  pub complete : (x : A) → Memᴰ x l → (i : ℕ) × (j ≤ i) × (i < j + k) × At x i

-- The rules come first, and the constraints behind them.
abbrev pub HeldRules : List CountRule → Masks → Type 0
HeldRules rs M = Held (RuleAt M) rs 0 M.sizes.rules

abbrev pub HeldBodies : List Body → List ℕ → Sizes → Type 0
HeldBodies cs t s = Held (BodyAt t) cs s.rules s.constraints

-- A bound on the stable models that agree with decisions, by the rules of one side.
pub record Bound : Type 0 where
  pub side : Side
  pub ins : ℕ
  pub outs : ℕ

-- The bound of a side by decisions.
abbrev pub bound : Side → Decisions → Bound
bound s d = record { side = s; ins = d.ins; outs = d.outs }

-- The first where the rules surely apply, the second where they possibly do.
abbrev pub on_side : Side → Bool → Bool → Bool
on_side Sure x y = x
on_side Possible x y = y

-- The rule surely applies, or it possibly does.
abbrev pub passes : Bound → CountRule → Bool
passes B r = on_side B.side (surely (has B.ins) (has B.outs) r) (possibly (has B.ins) (has B.outs) r)

-- Whether a rule with these masks passes.
pub record Applies (B : Bound) (neg gate : ℕ) (b : Bool) : Type 0 where
  pub is : (r : CountRule) (head pos : ℕ) → Matches r head pos neg gate → b ≡ passes B r

-- One rule: its head is added where it applies and its positive atoms are there.
pub record Fired (l head pos : ℕ) (b : Bool) (r : ℕ) : Type 0 where
  pub grows : l ≤ r
  pub keeps : Inside (has l) (has r)
  pub adds : (a : ℕ) → has r a ≡ true → (has l a ≡ true) ⊎ ((a ≡ head) × (b ≡ true) × Inside (has pos) (has l))
  pub closes : b ≡ true → Inside (has pos) (has l) → has r head ≡ true

-- The operator of the rules that pass.
abbrev pub operator : Bound → List CountRule → State → State
operator B rs = consequences (definites (passes B) rs)

-- The rule at index j.
pub record FiredAt (t gate : List ℕ) (j : ℕ) (B : Bound) (l r : ℕ) : Type 0 where
  pub flag : Bool
  pub asked : Applies B (row_at t j).neg (get_or gate j 0) flag
  pub fired : Fired l (row_at t j).head (row_at t j).pos flag r

-- Where the rule at j adds its head, a pass may go on at back[j]: no rule before has that head among its positive atoms.
pub record Returning (t back : List ℕ) (k : ℕ) : Type 0 where
  pub near : (j : ℕ) → j < k → get_or back j 0 ≤ j + 1
  pub lacks : (j : ℕ) → j < k → (j' : ℕ) → j' < get_or back j 0 → has (row_at t j').pos (row_at t j).head ≡ false

-- The heads of the first k records are below 64.
pub record LowHeads (t : List ℕ) (k : ℕ) : Type 0 where
  pub low : (j : ℕ) → j < k → (row_at t j).head < 64

-- The arrays have room for the entries, heads are atoms, and a pass knows where to go on.
pub record Ready (t back : List ℕ) (s : Sizes) : Type 0 where
  pub few : s.rules + s.constraints ≤ 128
  pub low : LowHeads t s.rules
  pub returns : Returning t back s.rules

-- The index to go on at, behind j if nothing was added.
pub record Onward (x y back j r : ℕ) : Type 0 where
  pub same : x ≡ y → r ≡ j + 1
  pub other : (x ≡ y → ⊥) → r ≡ back

-- A closed set that lies in every closed set that has the start: the least model, where that is nothing.
pub record LeastBy (M : Masks) (B : Bound) (start r : ℕ) : Type 0 where
  pub closed : (rs : List CountRule) → HeldRules rs M → Closed (operator B rs) (has r)
  pub below : (rs : List CountRule) → HeldRules rs M → (Y : State) → Closed (operator B rs) Y → Inside (has start) Y → Inside (has r) Y

-- Whether a constraint's body holds in the set.
pub record BodyHolds (x pos neg : ℕ) (r : Bool) : Type 0 where
  pub is : (b : Body) → BodyMatches b pos neg → r ≡ holds (has x) b

-- Whether the set breaks none of the constraints.
pub record Lawful (t : List ℕ) (s : Sizes) (x : ℕ) (r : Bool) : Type 0 where
  pub is : (cs : List Body) → HeldBodies cs t s → r ≡ all (λ b. not (holds (has x) b)) cs
