-- Literals of bodies by a table of variables, and the words of clauses that are written together.
use Rattle.std.specs.Prelude.{Bool, cond, List, [], ◌∷◌, map, ℕ, ◌<◌, ℤ, get_or}
use Rattle.asp.specs.Program.{Body}
use Rattle.unfolding.specs.Unfolded.{last}
use Rattle.unfolding.specs.Clauses.{Literal, positive, negative, negated, Clause, literals, rule_clauses, constraint_clause, signed, clause_words, signed_words}
use Rattle.bits.specs.inner.Visited.{listed}
use Rattle.program.specs.inner.Held.{added_atom}
use Rattle.program.specs.declared.TableRule.{TableRule}
use Rattle.copies.specs.inner.Bodies.{body_by}

-- The literal v or -v.
unfoldable pub literal_of : Bool → ℕ → Literal
literal_of plain v = cond plain (positive v) (negative v)

-- The literal of a positive or a negative atom, by a table.
unfoldable pub literal_by : List ℕ → Bool → ℕ → Literal
literal_by vars plain b = literal_of plain (get_or vars b 0)

-- The clauses of -d and one literal each, of a set's atoms.
unfoldable pub pairs : List ℕ → Bool → ℕ → ℕ → List Clause
pairs vars plain d x = map (λ b. negative d ∷ literal_by vars plain b ∷ []) (listed x)

-- Their words.
unfoldable pub pairs_words : List ℕ → Bool → ℕ → ℕ → List ℤ
pairs_words vars plain d x = signed_words (pairs vars plain d x)

-- The literals of a set's atoms, negated.
unfoldable pub flipped : List ℕ → Bool → ℕ → Clause
flipped vars plain x = map (λ b. negated (literal_by vars plain b)) (listed x)

-- Their words.
unfoldable pub flipped_words : List ℕ → Bool → ℕ → List ℤ
flipped_words vars plain x = map signed (flipped vars plain x)

-- The literal of an added atom, where there is one: its last copy, negated.
unfoldable pub added_literals : ℕ → List Literal
added_literals added = map (λ b. negative (last b)) (added_atom added)

-- The words of the clause of -d and it.
unfoldable pub added_pair_words : ℕ → ℕ → List ℤ
added_pair_words d added = signed_words (map (λ l. negative d ∷ l ∷ []) (added_literals added))

-- The word of its negation.
unfoldable pub added_flipped_words : ℕ → List ℤ
added_flipped_words added = map signed (map negated (added_literals added))

-- The clauses of -d and one literal each, of a body.
unfoldable pub body_pairs : ℕ → Body → List Clause
body_pairs d b = map (λ l. negative d ∷ l ∷ []) (literals b)

-- Their words, of a rule's body.
unfoldable pub body_pairs_words : List ℕ → ℕ → TableRule → List ℤ
body_pairs_words vars d r = signed_words (body_pairs d (body_by vars r))

-- The words of the clause of its negated literals.
unfoldable pub back_words : List ℕ → TableRule → List ℤ
back_words vars r = clause_words (constraint_clause (body_by vars r))

-- The words of the clauses of a rule, with the variable d, for h.
unfoldable pub rule_words : List ℕ → ℕ → ℕ → TableRule → List ℤ
rule_words vars h d r = signed_words (rule_clauses h d (body_by vars r))

-- The variables are below 2^31.
pub record SmallVariables (vars : List ℕ) : Type 0 where
  pub low : (b : ℕ) → b < 64 → get_or vars b 0 < 2147483648
