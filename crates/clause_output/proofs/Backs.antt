-- Laws of writing the clauses of constraints.
use mathlib.Core.List.{List, map-map, flat_map}
use mathlib.Core.Path.{◌≡◌, sym, ◌∙◌, ap, subst}
use Prim.Native.Nat.{ℕ, ◌+◌, ◌-◌, ◌≤◌, ◌<◌}
use lib.IntN.{ℤ}
use lib.ListN.{length}
use Rattle.lists.specs.Lists.{range}
use Rattle.unfolding.specs.Clauses.{constraint_clause, clause_words, signed_words}
use Rattle.program.specs.inner.Held.{table_rule}
use Rattle.program.specs.declared.TableRule.{TableRule}
use Rattle.writer.specs.inner.Wrote.{Wrote}
use Rattle.writer.proofs.Loops.{flat_map_map, RangeLeft, range_turn, range_room, range_end}
use Rattle.copies.specs.inner.Bodies.{entry_body}
use Rattle.rule_clauses.specs.inner.Literals.{back_words}
use Rattle.clause_output.specs.inner.Words.{backs_words}

-- The loop over the constraints.
abbrev back_one : List ℕ → List ℕ → List ℕ → ℕ → List ℤ
back_one t p vars j = back_words vars (table_rule t p j)

abbrev pub BacksLeft : List ℕ → List ℕ → List ℕ → List ℤ → ℕ → ℕ → ℕ → List ℤ → ℕ → ℕ → Type 0
BacksLeft t p vars = RangeLeft (back_one t p vars)

module _ (t p vars : List ℕ) (old : List ℤ) (at from to : ℕ) where
  abbrev f : ℕ → List ℤ
  f = back_one t p vars

  backs_are : flat_map f (range from (to - from)) ≡ backs_words t p vars from to
  unfolding backs_words back_words signed_words entry_body
  backs_are =
      sym (ap (flat_map clause_words) (map-map constraint_clause (entry_body t p vars) (range from (to - from)))
      ∙ flat_map_map clause_words (λ j. constraint_clause (entry_body t p vars j)) (range from (to - from)))

  module _ (cur : List ℤ) (next j : ℕ) (L : BacksLeft t p vars old at from to cur next j) where
    module _ (lt : j < to) (r : TableRule) (e : r ≡ table_rule t p j) where
      pub backs_room : at + length (backs_words t p vars from to) ≤ length old → next + length (back_words vars r) ≤ length cur
      backs_room h = rw e (range_room f old at from to cur next j L lt (subst (λ ws. at + length ws ≤ length old) (sym backs_are) h))

      pub backs_turn : (new : List ℤ) (behind : ℕ) → Wrote cur next (back_words vars r) new behind → BacksLeft t p vars old at from to new behind (j + 1)
      backs_turn new behind W = range_turn f old at from to cur next j L lt new behind (subst (λ x. Wrote cur next (back_words vars x) new behind) e W)

    pub backs_end : to ≤ j → Wrote old at (backs_words t p vars from to) cur next
    backs_end l = subst (λ ws. Wrote old at ws cur next) backs_are (range_end f old at from to cur next j L l)
