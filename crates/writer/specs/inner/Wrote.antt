-- What a writer promises, at any element type: the elements are stored from a place on.
use Rattle.std.specs.Prelude.{List, ◌≡◌, ℕ, ◌+◌, length}
use Rattle.std.proofs.lemmas.List.Edits.{sets}

pub record Wrote {A : Type 0} (old : List A) (at : ℕ) (ws new : List A) (next : ℕ) : Type 0 where
  pub stored : new ≡ sets old at ws
  pub moved : next ≡ at + length ws
