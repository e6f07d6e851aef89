-- What is known of the start of a missing chain, and what is written from there.
use Rattle.std.specs.Prelude.{List, ℕ, ◌<◌}
use Rattle.asp.specs.Program.{Program}
use Rattle.unfolding.specs.Missing.{ShortestMissing}
use Rattle.chains.specs.inner.Components.{Edged}
use Rattle.writer.specs.inner.Wrote.{Wrote}
use Rattle.starts.specs.declared.Start.{Start}
use Rattle.starts.specs.inner.Starts.{Begins}

-- For some program with these edges a chain is missing and starts there.
pub record SomeMissing (rows s : List ℕ) (r : Start) : Type 0 where
  pub program : Program
  pub edged : Edged program rows
  pub begins : Begins program s (λ b. b < program.atoms) r

-- The shortest missing chain is written.
pub record MissingPut (rows s : List ℕ) (start : Start) (old new : List ℕ) (r : ℕ) : Type 0 where
  pub chain : List ℕ
  pub wrote : Wrote old 0 chain new r
  pub is : (P : Program) → Edged P rows → Begins P s (λ b. b < P.atoms) start → ShortestMissing P s chain
