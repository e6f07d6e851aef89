-- The words of all copies and of the constraints in the unfolded program, and what the emitter of the copies asks for.
use mathlib.Core.List.{List, map, flat_map}
use Rattle.std.specs.Prelude.{ℕ, ◌+◌, ◌-◌, ◌≤◌, length}
use Rattle.lists.specs.Lists.{range}
use Rattle.unfolding.specs.Unfolded.{Unfolded, last, copy_words}
use Rattle.copies.specs.inner.Tables.{Values}
use Rattle.copies.specs.inner.Bodies.{entry_body}
use Rattle.copy_words.specs.inner.Words.{bodies_words}

-- The words of the bodies of the entries from .. to - 1.
unfoldable pub entries_words : List ℕ → List ℕ → List ℕ → ℕ → ℕ → List ℕ
entries_words t p vars from to = bodies_words (map (entry_body t p vars) (range from (to - from)))

-- The words of all copies.
unfoldable pub copies_words : Unfolded → List ℕ
copies_words U = flat_map copy_words U.copies

-- What the emitter of the copies asks for, which writes them behind their number.
pub record CopiesReady (U : Unfolded) (lasts out : List ℕ) : Type 0 where
  pub by_last : Values last lasts
  pub room : 1 + length (copies_words U) ≤ length out
