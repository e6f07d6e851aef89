-- Rows in one list of numbers, whatever a row is and wherever its numbers stand: `row t j` is the row of t at j.
use Rattle.std.specs.Prelude.{List, ◌≡◌, ℕ, length}

-- u is t with the row r at j.
pub record Stored {R : Type 0} (row : List ℕ → ℕ → R) (t : List ℕ) (j : ℕ) (r : R) (u : List ℕ) : Type 0 where
  pub long : length u ≡ length t
  pub new : row u j ≡ r
  pub old : (i : ℕ) → (i ≡ j → ⊥) → row u i ≡ row t i
