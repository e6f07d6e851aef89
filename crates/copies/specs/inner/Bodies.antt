-- Bodies of a table's entries, over variables.
use mathlib.Core.List.{List, [], ◌∷◌, map, flat_map}
use Rattle.std.specs.Prelude.{ℕ, ◌+◌, length, get_or}
use Rattle.asp.specs.Program.{Body}
use Rattle.unfolding.specs.Unfolded.{Copy, renamed}
use Rattle.bits.specs.inner.Visited.{listed}
use Rattle.program.specs.inner.Held.{table_rule, added_atom, body_of}
use Rattle.program.specs.declared.TableRule.{TableRule}

-- The body of a rule over variables: positive atoms by the table, negative atoms by their last copies.
unfoldable pub body_by : List ℕ → TableRule → Body
body_by vars r = renamed (λ b. get_or vars b 0) (body_of r)

-- The body of one entry over variables.
unfoldable pub entry_body : List ℕ → List ℕ → List ℕ → ℕ → Body
entry_body t p vars i = body_by vars (table_rule t p i)

-- The bodies over variables of the entries that are listed.
unfoldable pub bodies_by : List ℕ → List ℕ → List ℕ → List ℕ → List Body
bodies_by t p vars listed = map (entry_body t p vars) listed

-- How many negative atoms there are: those of the set, and one where one is added.
unfoldable pub negative_atoms : ℕ → ℕ → ℕ
negative_atoms neg added = length (listed neg) + length (added_atom added)

-- How many atoms the body of a rule has.
unfoldable pub body_atoms : TableRule → ℕ
body_atoms r = length (listed r.pos) + negative_atoms r.neg r.added

-- How many atoms bodies have.
unfoldable pub atom_count : List Body → ℕ
atom_count [] = 0
atom_count (b ∷ bs) = length b.pos + length b.neg + atom_count bs

-- The bodies of the rules that the copies keep.
abbrev pub kept_bodies : List Copy → List Body
kept_bodies cs = flat_map (λ c. c.kept) cs
