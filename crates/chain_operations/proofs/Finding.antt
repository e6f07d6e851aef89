-- Laws of finding the missing chain.
use mathlib.Core.Bool.{true, false, not}
use mathlib.Core.List.{List, [], ◌∷◌}
use mathlib.Core.Path.{◌≡◌, refl, sym, ◌∙◌, ap, subst}
use Prim.Native.Nat.{ℕ, ◌^◌, ◌≤◌, ◌<◌}
use native.Mathlib.Omega.{arith}
use lib.ListN.{length}
use Rattle.std.specs.Prelude.{Some, None}
use Rattle.lists.specs.Lists.{below}
use Rattle.lists.proofs.Members.{below_more}
use Rattle.unfolding.specs.Chain.{passes}
use Rattle.unfolding.proofs.Claims.{shortest_is_only}
use Rattle.std.proofs.Common.{Ok, Err}
use Rattle.refusals.specs.declared.Refusal.{Refusal}
use Rattle.refusals.specs.declared.Refusal.TheVariants as refusal
use Rattle.refusals.specs.Numbers.{number}
use Rattle.refusals.proofs.Asking.{number_positive}
use Rattle.sheet.specs.Questions.{ask, ◌then◌, first_refusal}
use Rattle.sheet.specs.Sequence.{entries}
use Rattle.sheet.specs.Sheet.{program}
use Rattle.sheet.specs.declared.Limits.{Limits}
use Rattle.sheet.proofs.Questions.{then_zero, then_refused, then_none}
use Rattle.bits.specs.inner.Visited.{listed}
use Rattle.chain_rows.specs.inner.Subsets.{Roomy}
use Rattle.chains.specs.inner.Components.{Edged}
use Rattle.writer.specs.inner.Wrote.{Wrote}
use Rattle.positions.specs.inner.Positions.{Position}
use Rattle.starts.specs.declared.Start.{Start}
use Rattle.starts.specs.inner.Starts.{Begins}
use Rattle.missing_start.specs.inner.StartOf.{StartOf}
use Rattle.missing_start.proofs.Found.{none_lacking, some_lacking, start_length, start_roomy}
use Rattle.missing.specs.inner.Missing.{SomeMissing, MissingPut}
use Rattle.operations.specs.Outcome.{refused, answered}
use Rattle.operations.specs.Outputs.{missing_output}
use Rattle.operations.specs.Questions.{question14}
use Rattle.operations.specs.Calls.{with_sequence, naturals, describe, Promised}
use Rattle.operations.specs.Calls as call
use Rattle.operations.specs.Requirements.{Supported}
use Rattle.operations.specs.inner.Refusals.{input_refusal}
use Rattle.operations.proofs.Writing.{room_refused, room_full, room_done}
use Rattle.sheet_check.specs.inner.Checked.{SheetChecked}
use Rattle.sheet_check.specs.declared.SheetNumbers.{SheetNumbers}
use Rattle.sheet_check.proofs.Sheets.{sheet_small, sheet_graph}
use Rattle.sequence_check.specs.inner.Checked.{entries_refusal, EntriesChecked}
use Rattle.sequence_check.proofs.Entries.{sequence_fits_lem, sequence_low}
use Rattle.sequence_check.proofs.Sequences.{sheet_refuses, entries_decide}

-- What a table had room for, it has room for as long as it keeps its length.
pub still_room : (k rows now : ℕ) → k ≤ rows → now ≡ rows → k ≤ now
still_room k rows now l e = omega arith

module _ (L : Limits) (s q old : List ℕ) where
  -- What is asked before question 10.
  abbrev asked : ℕ
  asked = input_refusal L (with_sequence s q) then first_refusal (question14 s q ∷ [])

  refused_by : (e : Refusal) → number e ≡ asked → Promised L (call.missing s q old) (refused (number e)) (naturals old)
  unfolding describe
  refused_by e is = room_refused L (call.missing s q old) naturals (with_sequence s q) (question14 s q ∷ []) (missing_output s q) [] old refl e is

  pub missing_refused : (es cs ss : List ℕ) (e : Refusal) → SheetChecked L s es cs ss (Err e) → Promised L (call.missing s q old) (refused (number e)) (naturals old)
  missing_refused es cs ss e A = refused_by e (sheet_refuses L s q es cs ss e A (first_refusal (question14 s q ∷ [])))

module _ (L : Limits) (s q old es cs ss : List ℕ) (r : SheetNumbers) (A : SheetChecked L s es cs ss (Ok r)) where
  behind : (k : ℕ) → k ≡ entries_refusal L r.atoms q → asked L s q old ≡ k then first_refusal (question14 s q ∷ [])
  behind k F = ap (λ k. k then first_refusal (question14 s q ∷ [])) (entries_decide L s q es cs ss r A ∙ sym F)

  pub missing_malformed : (e : Refusal) → EntriesChecked L r.atoms q (Err e) → Promised L (call.missing s q old) (refused (number e)) (naturals old)
  missing_malformed e F =
      let p = number_positive e in
      refused_by L s q old e (sym (behind (number e) F.says ∙ then_refused (number e) _ (λ z. omega arith)))

  module _ (F : EntriesChecked L r.atoms q (Ok tt)) where
    pub missing_low : below 64 (entries q) ≡ true
    missing_low = below_more r.atoms 64 (entries q) A.value.accepted.bytes.low (sequence_low L r.atoms q F)

    pub missing_position : Supported L → Position q 3
    missing_position S =
        let fits = sequence_fits_lem L r.atoms q F in
        let few = fits.few in
        let size = fits.size in
        let most = S.entries in
        record { start = omega arith; inside = fits.three; short = omega arith }

    fourteenth : asked L s q old ≡ question14 s q
    unfolding first_refusal
    fourteenth = behind 0 F.says ∙ (then_zero 0 _ refl ∙ then_none (question14 s q))

    missing_found : passes (program s) (entries q) ≡ true → Promised L (call.missing s q old) (refused 14) (naturals old)
    unfolding ask
    missing_found e = refused_by L s q old refusal.Found (sym (fourteenth ∙ ap (λ p. ask (not p) 14) e))

    module _ (lacks : passes (program s) (entries q) ≡ false) where
      all_yes : asked L s q old ≡ 0
      unfolding ask
      all_yes = fourteenth ∙ ap (λ p. ask (not p) 14) lacks

      missing_full : length old < length (missing_output s q) → Promised L (call.missing s q old) (refused 10) (naturals old)
      unfolding describe
      missing_full l = room_full L (call.missing s q old) naturals (with_sequence s q) (question14 s q ∷ []) (missing_output s q) [] old refl all_yes l

      missing_done : (new : List ℕ) (next : ℕ) → length (missing_output s q) ≤ length old → Wrote old 0 (missing_output s q) new next
          → Promised L (call.missing s q old) (answered (next ∷ [])) (naturals new)
      unfolding describe
      missing_done new next l W =
          room_done L (call.missing s q old) naturals (with_sequence s q) (question14 s q ∷ []) (missing_output s q) [] old refl all_yes new next l W

    edged : Edged (program s) es
    edged = (sheet_graph L s es cs ss r A.value).edged

    -- No start is found.
    pub missing_none : StartOf r.atoms es ss (entries q) None → Promised L (call.missing s q old) (refused 14) (naturals old)
    missing_none K = missing_found (none_lacking (program s) edged.formed (entries q) (K.is (program s) (sheet_graph L s es cs ss r A.value)))

    -- By the start that is found.
    module _ (start : Start) (K : StartOf r.atoms es ss (entries q) (Some start)) where
      begins : Begins (program s) (entries q) (λ b. b < (program s).atoms) start
      begins = (K.is (program s) (sheet_graph L s es cs ss r A.value)).some start refl

      lacks : passes (program s) (entries q) ≡ false
      lacks = some_lacking (program s) edged.formed (entries q) start begins

      size : length (missing_output s q) ≡ start.length
      unfolding missing_output
      size = start_length (program s) edged.formed (entries q) start begins

      pub missing_roomy : Supported L → (rows : ℕ) → 2 ^ L.taken.component ≤ rows → Roomy (length (listed start.set)) rows
      missing_roomy S rows T =
          start_roomy (program s) r.atoms es ss (entries q) start (sheet_graph L s es cs ss r A.value) begins rows (sheet_small L s es cs ss r A.value S rows T)

      pub some_missing : SomeMissing es (entries q) start
      some_missing = record { program = program s; edged = edged; begins = begins }

      pub missing_no_room : length old < start.length → Promised L (call.missing s q old) (refused 10) (naturals old)
      missing_no_room k = missing_full lacks (let e = size in omega arith)

      pub missing_put : (new : List ℕ) (next : ℕ) → start.length ≤ length old → MissingPut es (entries q) start old new next
          → Promised L (call.missing s q old) (answered (next ∷ [])) (naturals new)
      unfolding missing_output
      missing_put new next k M =
          let same = shortest_is_only (program s) edged.formed (entries q) M.chain (M.is (program s) edged begins) in
          missing_done lacks new next (let e = size in omega arith) (subst (λ w. Wrote old 0 w new next) same M.wrote)
