-- Which rules of a table are kept for a copy.
use Rattle.std.specs.Prelude.{Bool, not, ◌&&◌, ◌||◌, cond, List, ◌≡◌, ℕ, ◌≤◌, ◌<◌, eqb, ltb, length, get_or, set, take}
use Rattle.lists.specs.Lists.{all, filter, range}
use Rattle.bits.specs.inner.Sets.{has}
use Rattle.bits.specs.inner.Visited.{listed}
use Rattle.program.specs.inner.Held.{table_rule, ProgramTable}
use Rattle.program.specs.declared.TableRule.{TableRule}
use Rattle.copies.specs.inner.Tables.{Overlaid}
use Rattle.copies.specs.declared.CopyStep.{CopyStep}
use Rattle.copies.specs.declared.EntryCopy.{EntryCopy}

-- A rule is kept for a copy of a: a is its head, and its positive atoms of a's component are among those whose latest copy keeps a rule.
unfoldable pub keeps : ℕ → ℕ → ℕ → TableRule → Bool
keeps a component keeping r = eqb r.head a && all (λ b. not (has component b) || has keeping b) (listed r.pos)

-- The atoms whose latest copy keeps a rule, behind a copy of a that keeps so many.
pub record Marked (keeping a rules r : ℕ) : Type 0 where
  pub members : (b : ℕ) → has r b ≡ cond (eqb b a) (ltb 0 rules) (has keeping b)

-- The entries of the rules kept for a copy of a.
unfoldable pub kept_entries : ProgramTable → ℕ → ℕ → ℕ → List ℕ
kept_entries t a component keeping = filter (λ i. keeps a component keeping (table_rule t.records t.entries i)) (range 0 t.rules)

-- The numbers listed are entries of a table.
pub record Inside (listed : List ℕ) : Type 0 where
  pub few : length listed ≤ 192
  pub low : (j : ℕ) → j < length listed → get_or listed j 0 < 192

-- The entries of the rules kept for a copy of a are the first k that are listed.
pub record Kept (t : ProgramTable) (a component keeping : ℕ) (entries : List ℕ) (k : ℕ) : Type 0 where
  pub long : length entries ≡ 192
  pub few : k ≤ 192
  pub are : take k entries ≡ kept_entries t a component keeping
  pub inside : Inside (take k entries)

-- The step of one copy: its component, the rules kept for it, and the atoms whose latest copy keeps a rule behind it.
pub record Selected (t : ProgramTable) (components : List ℕ) (a keeping : ℕ) (entries : List ℕ) (r : CopyStep) : Type 0 where
  pub component : r.component ≡ get_or components a 0
  pub kept : Kept t a r.component keeping entries r.kept
  pub marked : Marked keeping a r.kept r.keeping

-- The rules of a new copy: those that are selected, the variables that stand in them, and the latest copies behind it.
pub record CopyMade (t : ProgramTable) (components latest lasts : List ℕ) (c : EntryCopy) (keeping : ℕ) (entries after vars : List ℕ) (r : CopyStep) : Type 0 where
  pub selected : Selected t components c.atom keeping entries r
  pub overlaid : Overlaid r.component latest lasts vars
  pub is_latest : after ≡ set latest c.atom c.var
