-- The derivation as it was before rules that read a copy without a rule were dropped, and what it means that the present one shortens it.
use Rattle.std.specs.Prelude.{Bool, not, ◌&&◌, ◌||◌, cond, ◌≡◌, ℕ, suc, ◌≤◌, eqb, length}
use mathlib.Core.List.{List, [], ◌∷◌, map, Memᴰ, Sublistᴰ, Forall₂}
use Rattle.lists.specs.Lists.{all, any, filter, member}
use Rattle.asp.specs.Program.{Body, Rule, Program}
use Rattle.unfolding.specs.Graph.{same_component}
use Rattle.unfolding.specs.Unfolded.{Copy, Unfolded, last, replaced, renamed, variable, unfolded, words}
use Rattle.unfolding.specs.Clauses.{negative, copy_clauses, clauses, variables, signed_words}

-- The atom has a copy among those made so far.
unfoldable pub copied : List Copy → ℕ → Bool
copied past b = any (λ c. eqb c.atom b) past

-- The rule was kept for a copy of a: no positive atom of a's component was without a copy so far.
unfoldable pub was_kept : Program → List Copy → ℕ → Rule → Bool
was_kept P past a r = eqb r.head a && all (λ b. not (same_component P a b) || copied past b) r.body.pos

-- The rules that were kept for a copy of a.
unfoldable pub were_kept : Program → List Copy → ℕ → List Body
were_kept P past a = map (λ r. renamed (replaced P past a) r.body) (filter (was_kept P past a) P.rules)

-- The copies of a sequence as they were, behind those made so far.
unfoldable pub unshortened_from : Program → ℕ → List Copy → List ℕ → List Copy
unshortened_from P e past [] = []
unshortened_from P e past (a ∷ s) =
    let c : Copy = record { atom = a; var = variable P e a (member a s); kept = were_kept P past a } in
    c ∷ unshortened_from P (cond (member a s) (suc e) e) (c ∷ past) s

-- The unfolded program as it was.
unfoldable pub unshortened : Program → List ℕ → Unfolded
unshortened P s = record { copies = unshortened_from P 0 [] s; constraints = map (renamed last) P.constraints }

-- The same copy with some of the other's rules, in their order.
pub record Shortens (c d : Copy) : Type 0 where
  pub atom : c.atom ≡ d.atom
  pub var : c.var ≡ d.var
  pub kept : Sublistᴰ c.kept d.kept

-- The unfolded program is the one that was, with rules left out.
pub record Shortened (P : Program) (s : List ℕ) : Type 0 where
  -- Copy by copy, and the constraints are the same.
  pub copies : Forall₂ Shortens (unfolded P s).copies (unshortened P s).copies
  pub constraints : (unfolded P s).constraints ≡ (unshortened P s).constraints
  -- A copy that keeps no rule has the clause of its negation alone, wherever rule variables start.
  pub alone : (c : Copy) → Memᴰ c (unfolded P s).copies → c.kept ≡ [] → (d : ℕ) → copy_clauses d c ≡ (negative c.var ∷ []) ∷ []
  -- There are no more words, variables and clauses than there were.
  pub fewer_words : length (words (unfolded P s)) ≤ length (words (unshortened P s))
  pub fewer_variables : variables (unfolded P s) ≤ variables (unshortened P s)
  pub fewer_clauses : length (clauses (unfolded P s)) ≤ length (clauses (unshortened P s))
  pub fewer_signed_words : length (signed_words (clauses (unfolded P s))) ≤ length (signed_words (clauses (unshortened P s)))
