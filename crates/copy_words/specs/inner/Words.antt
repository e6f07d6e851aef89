-- The words of bodies and of a copy in the unfolded program, and what the emitter of a copy asks for.
use mathlib.Core.List.{List, ◌∷◌, flat_map}
use Rattle.std.specs.Prelude.{ℕ, ◌+◌, ◌≤◌, length}
use Rattle.asp.specs.Program.{Body}
use Rattle.unfolding.specs.Unfolded.{last, body_words}
use Rattle.copies.specs.inner.Tables.{Values}
use Rattle.copies.specs.inner.Bodies.{bodies_by}
use Rattle.copies.specs.inner.Kept.{Inside}

-- The words of bodies, one behind the other.
unfoldable pub bodies_words : List Body → List ℕ
bodies_words bs = flat_map body_words bs

-- The words of the bodies of the entries that are listed.
unfoldable pub listed_words : List ℕ → List ℕ → List ℕ → List ℕ → List ℕ
listed_words t p vars listed = bodies_words (bodies_by t p vars listed)

-- The words of a copy: its variable, the number of its rules, and those.
unfoldable pub kept_words : List ℕ → List ℕ → List ℕ → ℕ → List ℕ → List ℕ
kept_words t p vars var listed = var ∷ length listed ∷ listed_words t p vars listed

-- What the emitter of a copy asks for.
pub record CopyReady (t p vars lasts : List ℕ) (at var : ℕ) (listed out : List ℕ) : Type 0 where
  pub by_last : Values last lasts
  pub inside : Inside listed
  pub room : at + length (kept_words t p vars var listed) ≤ length out
