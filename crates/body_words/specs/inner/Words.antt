-- The words of one body in the unfolded program, and what their emitters promise.
use Rattle.std.specs.Prelude.{List, map, ◌≡◌, ℕ, ◌+◌, length, get_or}
use Rattle.lists.specs.Lists.{range}
use Rattle.unfolding.specs.Unfolded.{last, body_words}
use Rattle.bits.specs.inner.Visited.{listed}
use Rattle.program.specs.inner.Held.{added_atom}
use Rattle.program.specs.declared.TableRule.{TableRule}
use Rattle.writer.specs.inner.Wrote.{Wrote}
use Rattle.copies.specs.inner.Bodies.{body_by}

-- The words of a rule's body.
unfoldable pub rule_body_words : List ℕ → TableRule → List ℕ
rule_body_words vars r = body_words (body_by vars r)

-- The variables of the eight atoms from a on.
unfoldable pub eight_words : List ℕ → ℕ → List ℕ
eight_words vars a = map (λ b. get_or vars b 0) (range a 8)

-- The variables of the set's atoms are written, and so many words.
pub record SetWrote (old : List ℕ) (at : ℕ) (vars : List ℕ) (x : ℕ) (new : List ℕ) (next : ℕ) : Type 0 where
  pub wrote : Wrote old at (map (λ b. get_or vars b 0) (listed x)) new next
  pub far : next ≡ at + length (listed x)

-- The last copy of the added atom is written, where there is one.
pub record AddedWrote (old : List ℕ) (at added : ℕ) (new : List ℕ) (next : ℕ) : Type 0 where
  pub wrote : Wrote old at (map last (added_atom added)) new next
  pub far : next ≡ at + length (added_atom added)
