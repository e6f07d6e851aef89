-- Laws of the questions about the bytes and the records of a sheet, one for each way out.
use mathlib.Core.List.{List}
use mathlib.Core.Path.{◌≡◌, refl, sym, ◌∙◌, ap, ap₂}
use Prim.Native.Nat.{ℕ, ◌+◌, ◌^◌, ◌≤◌, ◌<◌}
use native.Mathlib.Omega.{arith}
use borrow.Author.Tests.{le-leb, lt-leb}
use lib.ListN.{length}
use Rattle.std.proofs.Common.{Ok, Err}
use Rattle.refusals.specs.declared.Refusal.{Refusal}
use Rattle.refusals.specs.declared.Refusal.TheVariants as refusal
use Rattle.refusals.specs.Numbers.{number}
use Rattle.refusals.proofs.Asking.{number_positive, asked_value, asked_refusal}
use Rattle.sheet.specs.Questions.{ask}
use Rattle.sheet.specs.Format.{atoms_byte}
use Rattle.sheet.specs.inner.Walk.{form_refusal}
use Rattle.sheet.specs.Sheet.{records_from, records, choices, program_of, program}
use Rattle.sheet.specs.declared.Limits.{Limits}
use Rattle.sheet.proofs.Questions.{then_refused, then_zero}
use Rattle.sheet.proofs.Walk.{formed, records_sound}
use Rattle.reader.specs.declared.Header.{Header}
use Rattle.reader.specs.inner.Tabled.{HeaderRead, RecordsRead}
use Rattle.translation.specs.inner.Records.{held, records_in, ChoicesIn}
use Rattle.operations.specs.Requirements.{Supported}
use Rattle.operations.specs.Questions.{question13}
use Rattle.operations.specs.inner.Refusals.{bytes_refusal}
use Rattle.operations.proofs.Questions.{bytes_parted}
use Rattle.sheet_check.specs.inner.Checked.{BytesAccepted, RecordsKept, BytesPassed, BytesChecked, Expands}
use Rattle.sheet_check.specs.declared.SheetNumbers.{SheetNumbers}

-- A refusal by questions 1 to 6 is that of the bytes.
module _ (L : Limits) (s t : List ℕ) where
  refused_by : (e : Refusal) → number e ≡ form_refusal L s → BytesChecked L s t (Err e)
  refused_by e f =
      let p = number_positive e in
      asked_refusal _ (BytesPassed L s t) e (f ∙ sym (bytes_parted L s ∙ then_refused (form_refusal L s) _ (λ z. omega arith)))

  pub bytes_header : (e : Refusal) → HeaderRead L s (Err e) → BytesChecked L s t (Err e)
  bytes_header e H = refused_by e H.refused

-- Behind a header that passes.
module _ (L : Limits) (s : List ℕ) (S : Supported L) (h : Header) (H : HeaderRead L s (Ok h)) where
  pub bytes_long : 5 ≤ length s
  bytes_long = H.passed.long

  pub bytes_atoms : h.atoms ≤ 64
  bytes_atoms = let l = H.passed.low in let k = S.atoms in omega arith

  pub bytes_count : h.records ≤ 128
  bytes_count = let l = H.passed.few in let k = S.records in omega arith

  module _ (t : List ℕ) where
    pub bytes_records : (e : Refusal) → RecordsRead h.atoms h.records s t (Err e) → BytesChecked L s t (Err e)
    bytes_records e Q = refused_by L s t e (Q.asked.says ∙ sym H.passed.rest)

    module _ (Q : RecordsRead h.atoms h.records s t (Ok tt)) (c : ℕ) (C : ChoicesIn t h.records c) where
      pub bytes_sum : h.atoms + c < 2 ^ 64
      bytes_sum = let f = C.few in let a = bytes_atoms in let m = bytes_count in omega arith

      passed : form_refusal L s ≡ 0
      passed = H.passed.rest ∙ sym Q.asked.says

      same_records : records_in (held h.records t) ≡ records s
      unfolding records
      same_records = Q.asked.value.stored ∙ ap (λ m. records_from m s 5) H.passed.records

      numbered : h.atoms + c ≡ atoms_byte s + choices (records s)
      numbered = ap₂ (λ n k. n + k) H.passed.atoms (C.is ∙ ap choices same_records)

      thirteenth : bytes_refusal L s ≡ question13 L s
      thirteenth = bytes_parted L s ∙ then_zero (form_refusal L s) _ passed

      pub bytes_crowded : L.atoms < h.atoms + c → BytesChecked L s t (Err refusal.Fresh)
      unfolding ask
      bytes_crowded l =
          let k = numbered in
          asked_refusal _ (BytesPassed L s t) refusal.Fresh (sym (thirteenth ∙ rw (lt-leb (atoms_byte s + choices (records s)) L.atoms (omega arith)) refl))

      pub bytes_fine : h.atoms + c ≤ L.atoms → BytesChecked L s t (Ok (record { written = h.atoms; records = h.records; atoms = h.atoms + c }))
      unfolding ask program program_of
      bytes_fine l =
          let k = numbered in
          let most = S.atoms in
          asked_value _ (BytesPassed L s t) _ (sym (thirteenth ∙ rw (le-leb (atoms_byte s + choices (records s)) L.atoms (omega arith)) refl))
          record {
            accepted = record {
              form = passed;
              number = H.passed.records;
              written = H.passed.atoms;
              atoms = k;
              low = omega arith;
            };
            kept = record { list = same_records; exact = Q.asked.value.exact; long = Q.long };
          }

-- The records of a sheet that is not refused so far can be made its program.
module _ (L : Limits) (s : List ℕ) (S : Supported L) (t : List ℕ) (r : SheetNumbers) (A : BytesAccepted L s r) (K : RecordsKept s t r) where
  pub kept_program : program_of r.written (records_in (held r.records t)) ≡ program s
  unfolding program
  kept_program = ap₂ program_of A.written K.list

  pub kept_expands : Expands (held r.records t) r
  unfolding program program_of
  kept_expands =
      let few = (formed L s A.form).count in
      let most = S.records in
      let n = A.number in
      let w = A.written in
      let k = A.atoms in
      let low = A.low in
      let c = ap choices K.list in
      record { expandable = record { few = omega arith; sound = rw (w, K.list) (records_sound L s A.form); low = omega arith }; atoms = omega arith }
