-- What the questions about a sequence promise: the refusal.
use Rattle.std.specs.Prelude.{List, ◌≡◌, ℕ, Result}
use Rattle.asp.specs.Program.{Program}
use Rattle.unfolding.specs.Chain.{passes}
use Rattle.refusals.specs.declared.Refusal.{Refusal}
use Rattle.refusals.specs.Numbers.{refusal_of}
use Rattle.refusals.specs.Asked.{Asked}
use Rattle.sheet.specs.Questions.{ask, ◌then◌}
use Rattle.sheet.specs.Sequence.{sequence_fits, entries}
use Rattle.sheet.specs.declared.Limits.{Limits}
use Rattle.chains.specs.inner.Components.{Graph}
use Rattle.operations.specs.Questions.{question16}

-- The refusal of the questions about the entries of a sequence, over n atoms.
unfoldable pub entries_refusal : Limits → ℕ → List ℕ → ℕ
entries_refusal L n q = ask (sequence_fits L n q) 8 then question16 L q

-- The questions about the entries of a sequence, over n atoms.
abbrev pub EntriesChecked : Limits → ℕ → List ℕ → Result (Unit {0}) Refusal → Type 0
EntriesChecked L n q r = Asked (entries_refusal L n q) (λ _. Unit {0}) r

-- The questions about a sequence, of any program of n atoms with this graph.
pub record SequenceChecked (L : Limits) (n : ℕ) (edges sets q : List ℕ) (r : Result (Unit {0}) Refusal) : Type 0 where
  pub says : (P : Program) → Graph P n edges sets → refusal_of r ≡ entries_refusal L n q then ask (passes P (entries q)) 9
