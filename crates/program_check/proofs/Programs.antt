-- Laws of the questions about a sheet and a sequence, with the program's table behind them.
use mathlib.Core.List.{List, [], ◌∷◌}
use mathlib.Core.Path.{◌≡◌, sym, ◌∙◌, ap, subst}
use Prim.Native.Nat.{ℕ, ◌^◌, ◌≤◌}
use native.Mathlib.Omega.{arith}
use lib.ListN.{length}
use Rattle.asp.specs.Program.{Program}
use Rattle.std.proofs.Common.{Result, Ok, Err}
use Rattle.refusals.specs.declared.Refusal.{Refusal}
use Rattle.refusals.specs.Numbers.{refusal_of}
use Rattle.sheet.specs.Questions.{◌then◌, first_refusal}
use Rattle.sheet.specs.Sheet.{program}
use Rattle.sheet.specs.declared.Limits.{Limits}
use Rattle.sheet.proofs.Sequences.{fits_out}
use Rattle.program.specs.inner.Held.{ProgramTable, program_in, table_of}
use Rattle.program.specs.declared.ProgramSize.{ProgramSize}
use Rattle.program.proofs.Entries.{program_atoms}
use Rattle.translation.specs.inner.Records.{held, records_in, Expandable}
use Rattle.translation.specs.inner.Translated.{entries, Room, Translated}
use Rattle.components.specs.inner.Reachability.{NamesLow}
use Rattle.choice.proofs.Sheets.{program_formed}
use Rattle.copies.specs.inner.Ready.{ComponentSets, Ready}
use Rattle.operations.specs.Questions.{question9}
use Rattle.operations.specs.Calls.{with_sequence}
use Rattle.operations.specs.Requirements.{Supported}
use Rattle.operations.specs.inner.Refusals.{input_refusal}
use Rattle.operations.proofs.Questions.{test_parted}
use Rattle.sheet_check.specs.inner.Checked.{SheetAccepted, SheetChecked, RecordsChecked}
use Rattle.sheet_check.specs.declared.SheetNumbers.{SheetNumbers}
use Rattle.sheet_check.proofs.Sheets.{checked_sheet, sheet_low, sheet_small}
use Rattle.chains.specs.inner.Components.{Small}
use Rattle.sheet_check.proofs.Bytes.{kept_program, kept_expands}
use Rattle.sequence_check.specs.inner.Checked.{SequenceChecked}
use Rattle.sequence_check.proofs.Sequences.{sheet_says, sequence_says, sequence_formed}
use Rattle.program_check.specs.inner.Checked.{NamedSets, ProgramChecked}
use Rattle.program_check.proofs.Components.{names_low, component_has}

-- An array for a program has room for its entries.
pub program_room : (p : List ℕ) → length p ≡ 192 → Room 0 (entries 0 p)
program_room p e = record { long = e; room = omega arith }

-- A refusal of the sheet is one of both, and of the sequence too.
module _ (L : Limits) (s q t es cs ss : List ℕ) (components records program : List ℕ) (e : Refusal) where
  pub program_sheet : RecordsChecked L s t es cs ss (Err e) → ProgramChecked L s q components records program (Err e)
  program_sheet K = record { says = sheet_says L s q es cs ss e (checked_sheet L s t es cs ss (Err e) K); value = tt }

  pub program_sequence : (a : SheetNumbers) → RecordsChecked L s t es cs ss (Ok a) → SequenceChecked L a.atoms es ss q (Err e)
      → ProgramChecked L s q components records program (Err e)
  program_sequence a K Q = record { says = sequence_says L s q es cs ss a (checked_sheet L s t es cs ss (Ok a) K) (Err e) Q; value = tt }

-- The program's table, made behind the questions.
module _ (L : Limits) (s t es cs ss : List ℕ) (a : SheetNumbers) (K : RecordsChecked L s t es cs ss (Ok a)) where
  A : SheetChecked L s es cs ss (Ok a)
  A = checked_sheet L s t es cs ss (Ok a) K

  B : SheetAccepted L s cs ss a
  B = K.value.sheet.accepted

  pub program_low : a.atoms ≤ 64
  program_low = sheet_low L s es cs ss a K.value.sheet

  pub program_small : Supported L → (rows : ℕ) → 2 ^ L.taken.component ≤ rows → Small a.atoms ss rows
  program_small = sheet_small L s es cs ss a K.value.sheet

  -- The records of a sheet that is not refused can be made a program.
  pub program_expandable : Supported L → Expandable a.written (held a.records t)
  program_expandable S = (kept_expands L s S t a B.bytes K.value.kept).expandable

  pub program_names : NamesLow a.atoms cs
  program_names =
      let k = B.bytes.atoms in
      let low = B.bytes.low in
      subst (λ n. NamesLow n cs) (sym k) (names_low (program s) (program_formed L s B.bytes.form) (omega arith) cs ss B.graph)

  module _ (q : List ℕ) (Q : SequenceChecked L a.atoms es ss q (Ok tt)) (S : Supported L) (components : List ℕ) (N : NamedSets a.atoms cs ss components)
      (size : ProgramSize) (p : List ℕ) (M : Translated a.written (records_in (held a.records t)) (table_of size t p)) where
    abbrev T : ProgramTable
    T = table_of size t p

    same : program_in T ≡ program s
    same = M.is ∙ kept_program L s S t a B.bytes K.value.kept

    atoms : T.atoms ≡ (program s).atoms
    atoms = sym (program_atoms T) ∙ ap (λ (P : Program). P.atoms) same

    grouped : ComponentSets T components
    grouped =
        let k = B.bytes.atoms in
        let low = B.bytes.low in
        let n = atoms in
        record {
          members = λ i j l h. rw same
              (component_has (program s) (program_formed L s B.bytes.form) (omega arith) cs ss B.graph components (subst (λ m. NamedSets m cs ss components) k N)
              i j (omega arith) (omega arith));
        }

    ready : Ready T components q
    ready =
        let F = fits_out L (program s).atoms q (sequence_formed L s q es cs ss a A Q) in
        let few = F.few in
        let size = F.size in
        let most = S.entries in
        let n = atoms in
        let k = B.bytes.atoms in
        let low = B.bytes.low in
        record {
          readable = record { atoms = omega arith; few = M.few; formed = rw same (program_formed L s B.bytes.form) };
          grouped = grouped;
          long = F.three;
          short = omega arith;
          low = rw n F.low;
        }

    pub program_made : ProgramChecked L s q components t p (Ok size)
    program_made = record { says = sequence_says L s q es cs ss a A (Ok tt) Q; value = record { is = same; ready = ready } }

-- Behind the questions.
module _ (L : Limits) (s q components records program : List ℕ) (r : Result ProgramSize Refusal) (A : ProgramChecked L s q components records program r) where
  pub program_asked : refusal_of r ≡ input_refusal L (with_sequence s q) then first_refusal (question9 s q ∷ [])
  program_asked = A.says ∙ test_parted L s q
