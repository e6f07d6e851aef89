-- Sequences may be lengthened (document 02, W7): what stays, over the answers that a service allows to a call.
use Rattle.std.specs.Prelude.{true, ◌≡◌, ℕ, ℤ, take}
use mathlib.Core.List.{List, [], ◌∷◌, Sublistᴰ}
use Rattle.unfolding.specs.Unfolded.{unfolded}
use Rattle.unfolding.specs.Decoded.{read_unfolded, named}
use Rattle.unfolding.specs.Clauses.{read_words}
use Rattle.unfolding.specs.Faithful.{Assignment, is_model, clauses_of}
use Rattle.unfolding.specs.Lengthened.{SameProjections, LaterCopiesTrue}
use Rattle.sheet.specs.Format.{atoms_byte}
use Rattle.sheet.specs.Sequence.{entries}
use Rattle.sheet.specs.Sheet.{program}
use Rattle.sheet.specs.declared.Limits.{Limits}
use Rattle.operations.specs.Outcome.{Outcome, answered}
use Rattle.operations.specs.Questions.{question8, question16}
use Rattle.operations.specs.Calls.{Buffer, naturals, integers, Service}
use Rattle.operations.specs.Calls as call
use Rattle.guarantees.specs.Demands.{Accepted}

-- The longer sequence has the entries of q, met in it in order, and others inserted anywhere. It has the form of a sequence of the sheet's atoms,
-- fresh ones among them (question 8), and no more entries than the service takes (question 16).
pub record Lengthened (L : Limits) (s q longer : List ℕ) : Type 0 where
  pub inserted : Sublistᴰ (entries q) (entries longer)
  pub formed : question8 L s longer ≡ 0
  pub taken : question16 L longer ≡ 0

-- What the author of an accepted sequence keeps who lengthens it.
pub record LengthenedSequences (L : Limits) (S : Service) : Type 0 where
  -- Testing accepts the longer sequence.
  pub accepted : (s q longer : List ℕ) → Accepted L s q → Lengthened L s q longer → Accepted L s longer
  pub tested : (s q longer : List ℕ) (o : Outcome) (b c : Buffer) → S (call.test s q) (answered []) b → Lengthened L s q longer
      → S (call.test s longer) o c → o ≡ answered []
  -- The set of cut models is the same: of the clauses of both sequences, and of the words of clauses that are written for any two.
  pub projections : (s q longer : List ℕ) → Accepted L s q → Lengthened L s q longer
      → SameProjections (atoms_byte s) (clauses_of (program s) (entries q)) (clauses_of (program s) (entries longer))
  pub written : (s q q' : List ℕ) (old new old' new' : List ℤ) (l v c l' v' c' : ℕ) → S (call.clauses s q old) (answered (l ∷ v ∷ c ∷ [])) (integers new)
      → S (call.clauses s q' old') (answered (l' ∷ v' ∷ c' ∷ [])) (integers new')
      → SameProjections (atoms_byte s) (read_words (take l new)) (read_words (take l' new'))
  -- In each model of the clauses of an accepted sequence, so of both, if a copy of an atom is true, every later copy of that atom is: of the copies of
  -- the unfolded program, and of those in its words, in each model of the words of its clauses.
  pub later : (s q : List ℕ) → Accepted L s q → (M : Assignment) → is_model M (clauses_of (program s) (entries q)) ≡ true
      → LaterCopiesTrue (unfolded (program s) (entries q)).copies M
  pub later_written : (s q old new : List ℕ) (l : ℕ) (old' new' : List ℤ) (l' v c : ℕ) → S (call.unfolded s q old) (answered (l ∷ [])) (naturals new)
      → S (call.clauses s q old') (answered (l' ∷ v ∷ c ∷ [])) (integers new') → (M : Assignment) → is_model M (read_words (take l' new')) ≡ true
      → LaterCopiesTrue (named (entries q) (read_unfolded (take l new)).copies) M
