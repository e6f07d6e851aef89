-- Laws of finding an atom to decide.
use mathlib.Core.Bool.{not}
use mathlib.Core.Path.{sym, ◌∙◌}
use Prim.Native.Nat.{ℕ}
use lib.Dec.{eqb}
use Rattle.lists.proofs.Bools.{and_left}
use Rattle.asp.specs.LeastModel.{Inside}
use Rattle.bits.specs.inner.Sets.{has}
use Rattle.bits.specs.inner.Visited.{Lowest, Rest}
use Rattle.search.specs.inner.Search.{Member}

pub lowest_member : (x a : ℕ) → Lowest x a → Member x a
lowest_member x a L = record { low = L.low; inside = L.is }

-- What is left to look at lies in the set, and so does the best atom so far.
pub record Seeking (x left best : ℕ) : Type 0 where
  pub within : Inside (has left) (has x)
  pub found : Member x best

pub seeking_start : (x best : ℕ) → Lowest x best → Seeking x x best
seeking_start x best L = record { within = λ a t. t; found = lowest_member x best L }

pub seeking_turn : (x left best a next left' : ℕ) → Seeking x left best → Lowest left a → ((y : ℕ) → Member y a → Member y best → Member y next) → Rest left left' → Seeking x left' next
seeking_turn x left best a next left' S L B R =
    let W = R.without a L in
    record {
      within = λ b t. S.within b (and_left (has left b) (not (eqb b a)) (sym (W.members b) ∙ t));
      found = B x (record { low = L.low; inside = S.within a L.is }) S.found;
    }

pub seeking_end : (x left best : ℕ) → Seeking x left best → Member x best
seeking_end x left best S = S.found
