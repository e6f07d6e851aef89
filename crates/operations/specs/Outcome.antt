-- The answer of an operation as the paper gives it: the number of the refusal, or the values of a success.
use Rattle.std.specs.Prelude.{cond, List, [], ◌∷◌, ℕ, eqb, Result, Ok, Err}
use Rattle.refusals.specs.declared.Refusal.{Refusal}
use Rattle.refusals.specs.Numbers.{number}
use Rattle.reader.specs.declared.Header.{Header}
use Rattle.operations.specs.declared.BodyPlace.{BodyPlace}
use Rattle.operations.specs.declared.ClauseNumbers.{ClauseNumbers}
use Rattle.operations.specs.declared.Counted.{Counted}
use Rattle.operations.specs.Verdicts.{code, from_verdict}

-- A refusal, or what is answered.
pub data Outcome : Type 0 where
  refused : ℕ → Outcome
  answered : List ℕ → Outcome

-- The first no of the questions, or the values.
unfoldable pub outcome : ℕ → List ℕ → Outcome
outcome refusal values = cond (eqb refusal 0) (answered values) (refused refusal)

-- What a result stands for, where a value is answered by these values.
abbrev pub from_result : {A : Type 0} → (A → List ℕ) → Result A Refusal → Outcome
from_result values (Ok x) = answered (values x)
from_result values (Err e) = refused (number e)

-- What a result of reading stands for.
abbrev pub from_read : Result Header Refusal → Outcome
from_read = from_result (λ h. h.atoms ∷ h.records ∷ [])

-- Of showing a body.
abbrev pub from_body : Result ℕ Refusal → Outcome
from_body = from_result (λ p. p ∷ [])

-- Of finding a body.
abbrev pub from_place : Result BodyPlace Refusal → Outcome
from_place = from_result (λ p. p.start ∷ p.end ∷ p.positives ∷ [])

-- Of an operation that writes.
abbrev pub from_write : Result ℕ Refusal → Outcome
from_write = from_result (λ l. l ∷ [])

-- Of testing a sequence.
abbrev pub from_test : Result (Unit {0}) Refusal → Outcome
from_test = from_result (λ _. [])

-- Of writing clauses.
abbrev pub from_clauses : Result ClauseNumbers Refusal → Outcome
from_clauses = from_result (λ n. n.words ∷ n.variables ∷ n.clauses ∷ [])

-- What a result of counting stands for.
abbrev pub from_count : Result Counted Refusal → Outcome
from_count = from_result (λ c. c.states ∷ code (from_verdict c.verdict) ∷ [])
