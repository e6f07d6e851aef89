-- The numbers of refusals.
use Rattle.std.specs.Prelude.{ℕ, Result, Ok, Err}
use Rattle.refusals.specs.declared.Refusal.{Refusal}
use Rattle.refusals.specs.declared.Refusal.TheVariants as refusal

-- The question that is answered by a no.
abbrev pub number : Refusal → ℕ
number refusal.Version = 1
number refusal.Length = 2
number refusal.Limits = 3
number refusal.Record = 4
number refusal.Kind = 5
number refusal.Atoms = 6
number refusal.Component = 7
number refusal.Sequence = 8
number refusal.Chain = 9
number refusal.Room = 10
number refusal.Negated = 11
number refusal.Number = 12
number refusal.Fresh = 13
number refusal.Found = 14
number refusal.Large = 15
number refusal.Long = 16

-- The number of a result's refusal, 0 where there is none.
abbrev pub refusal_of : {A : Type 0} → Result A Refusal → ℕ
refusal_of (Ok _) = 0
refusal_of (Err e) = number e
