-- What an author keeps who lengthens a sequence (document 02, W7): the cuts of the models, and the order of an atom's copies in each model.
use Rattle.std.specs.Prelude.{true, ◌↔◌, ◌≡◌, ℕ}
use mathlib.Core.List.{List, [], ◌∷◌, Sublistᴰ}
use Rattle.asp.specs.Program.{State}
use Rattle.unfolding.specs.Unfolded.{Copy}
use Rattle.unfolding.specs.Clauses.{Clause}
use Rattle.unfolding.specs.Faithful.{Assignment, is_model, projection}

-- The state is the cut of a model of the clauses.
abbrev pub ProjectedModel : ℕ → List Clause → State → Type 0
ProjectedModel n cs X = (M : Assignment) × (is_model M cs ≡ true) × (projection n M ≡ X)

-- The set of cut models is the same.
abbrev pub SameProjections : ℕ → List Clause → List Clause → Type 0
SameProjections n cs ds = (X : State) → ProjectedModel n cs X ↔ ProjectedModel n ds X

-- If a copy of an atom is true, every later copy of that atom is true.
abbrev pub LaterCopiesTrue : List Copy → Assignment → Type 0
LaterCopiesTrue cs M = (c d : Copy) → Sublistᴰ (c ∷ d ∷ []) cs → c.atom ≡ d.atom → M c.var ≡ true → M d.var ≡ true
