-- What the functions that add up lengths promise.
use Rattle.std.specs.Prelude.{List, ◌≡◌, ℕ, ◌≤◌, length}
use Rattle.lparse_lines.specs.inner.Lines.{atoms_text}

-- r is the length of the text of a set's atoms, at most 3 bytes for each of 64.
pub record AtomsLength (x r : ℕ) : Type 0 where
  pub is : r ≡ length (atoms_text x)
  pub small : r ≤ 192

-- r is the length of a line, or of a part of one; a coarse bound.
pub record LineLength (l : List ℕ) (r : ℕ) : Type 0 where
  pub is : r ≡ length l
  pub small : r ≤ 400

-- r is the length of some lines; a coarse bound.
pub record TextLength (t : List ℕ) (r : ℕ) : Type 0 where
  pub is : r ≡ length t
  pub small : r ≤ 200000
