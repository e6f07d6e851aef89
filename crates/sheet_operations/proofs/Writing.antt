-- Laws of finding components and of the default sequence.
use mathlib.Core.List.{List, [], ◌∷◌, ◌++◌, map, flat_map}
use mathlib.Core.Path.{◌≡◌, refl, sym, ◌∙◌, ap, subst}
use Prim.Native.Nat.{ℕ, ◌+◌, ◌*◌, ◌/◌, ◌%◌, ◌^◌, ◌≤◌, ◌<◌}
use native.Mathlib.Nat.{mul-le-mul_right}
use native.Mathlib.Omega.{arith}
use lib.ListN.{length, length-map, get_or}
use Rattle.lists.specs.Lists.{range}
use Rattle.lists.proofs.Members.{map_cong, flat_map_cong, range_out}
use Rattle.lists.proofs.Nodup.{length_range}
use Rattle.unfolding.specs.Graph.{component}
use Rattle.unfolding.specs.Default.{block, default_sequence}
use Rattle.std.proofs.Common.{Ok, Err}
use Rattle.refusals.specs.declared.Refusal.{Refusal}
use Rattle.refusals.specs.Numbers.{number}
use Rattle.sheet.specs.Questions.{◌then◌, first_refusal}
use Rattle.sheet.specs.Sheet.{program}
use Rattle.sheet.specs.declared.Limits.{Limits}
use Rattle.writer.specs.inner.Wrote.{Wrote}
use Rattle.writer.proofs.Writing.{wrote_append, wrote_length}
use Rattle.component_output.specs.inner.Names.{name_bytes, block_of, blocks_of}
use Rattle.operations.specs.Outcome.{refused, answered}
use Rattle.operations.specs.Outputs.{components_output, sequence_header, sequence_bytes, default_output}
use Rattle.operations.specs.Calls.{sheet, naturals, describe, Promised}
use Rattle.operations.specs.Calls as call
use Rattle.operations.specs.Requirements.{Supported}
use Rattle.operations.specs.inner.Refusals.{input_refusal}
use Rattle.operations.proofs.Questions.{nothing_behind}
use Rattle.operations.proofs.Writing.{room_refused, room_full, room_done}
use Rattle.operations.proofs.Default.{default_length}
use Rattle.sheet_check.specs.inner.Checked.{SheetAccepted, SheetChecked}
use Rattle.sheet_check.specs.declared.SheetNumbers.{SheetNumbers}
use Rattle.sheet_check.proofs.Sheets.{sheet_low, set_members}

module _ (L : Limits) (s es cs ss : List ℕ) (e : Refusal) (A : SheetChecked L s es cs ss (Err e)) where
  asked : number e ≡ input_refusal L (sheet s) then first_refusal []
  asked = A.says ∙ sym (nothing_behind L s)

  pub components_refused : (old : List ℕ) → Promised L (call.components s old) (refused (number e)) (naturals old)
  unfolding describe
  components_refused old = room_refused L (call.components s old) naturals (sheet s) [] (components_output s) [] old refl e asked

  pub default_refused : (old : List ℕ) → Promised L (call.default s old) (refused (number e)) (naturals old)
  unfolding describe
  default_refused old = room_refused L (call.default s old) naturals (sheet s) [] (default_output s) [] old refl e asked

module _ (L : Limits) (s es cs ss : List ℕ) (r : SheetNumbers) (A : SheetChecked L s es cs ss (Ok r)) where
  passed : input_refusal L (sheet s) then first_refusal [] ≡ 0
  passed = nothing_behind L s ∙ sym A.says

  pub atoms_low : r.atoms ≤ 64
  atoms_low = sheet_low L s es cs ss r A.value

  K : SheetAccepted L s cs ss r
  K = A.value.accepted

  -- The names and blocks of the table are those of the sheet's components.
  bytes : name_bytes cs r.atoms ≡ components_output s
  unfolding components_output name_bytes
  bytes =
      let a = K.bytes.atoms in
      ap (λ n. map (λ a. get_or cs a 0) (range 0 n)) a
      ∙ map_cong (λ a. get_or cs a 0) (component (program s)) (range 0 (program s).atoms) (λ a m. let h = (range_out 0 (program s).atoms a m).high in K.graph.named.name a (omega arith))

  size : length (components_output s) ≡ r.atoms
  unfolding components_output
  size = length-map (range 0 (program s).atoms) (component (program s)) ∙ (length_range 0 (program s).atoms ∙ sym K.bytes.atoms)

  pub names_room : (old : List ℕ) → r.atoms ≤ length old → 0 + length (name_bytes cs r.atoms) ≤ length old
  names_room old l = let e = ap length bytes in let f = size in omega arith

  pub components_full : (old : List ℕ) → length old < r.atoms → Promised L (call.components s old) (refused 10) (naturals old)
  unfolding describe
  components_full old l = room_full L (call.components s old) naturals (sheet s) [] (components_output s) [] old refl passed (let f = size in omega arith)

  pub components_done : (old new : List ℕ) (next : ℕ) → r.atoms ≤ length old → Wrote old 0 (name_bytes cs r.atoms) new next
      → Promised L (call.components s old) (answered (next ∷ [])) (naturals new)
  unfolding describe
  components_done old new next l W =
      room_done L (call.components s old) naturals (sheet s) [] (components_output s) [] old refl passed new next (let f = size in omega arith) (subst (λ b. Wrote old 0 b new next) bytes W)

  blocks : blocks_of ss r.atoms ≡ default_sequence (program s)
  unfolding blocks_of block_of default_sequence block
  blocks =
      let a = K.bytes.atoms in
      flat_map_cong (λ c. block_of (get_or ss c 0)) (block (program s)) (range 0 r.atoms)
      (λ c m. let h = (range_out 0 r.atoms c m).high in rw (set_members L s cs ss r K c (omega arith)) refl)
      ∙ ap (λ n. flat_map (block (program s)) (range 0 n)) a

  short : length (default_sequence (program s)) ≤ L.component * r.atoms
  short = subst (λ n. length (default_sequence (program s)) ≤ L.component * n) (sym K.bytes.atoms) (default_length s L.component K.limit)

  module _ (S : Supported L) (t : ℕ) (e : t ≡ length (blocks_of ss r.atoms)) where
    entries_few : t ≤ 640
    entries_few =
        let b = ap length blocks in
        let f = short in
        let k = K.bytes.low in
        let g = mul-le-mul_right r.atoms S.component in
        omega arith

    pub entries_fit : t + 3 < 2 ^ 64
    entries_fit = let k = entries_few in omega arith

    pub blocks_room : (old mid : List ℕ) (at : ℕ) → t + 3 ≤ length old → Wrote old 0 (sequence_header t) mid at
        → at + length (blocks_of ss r.atoms) ≤ length mid
    blocks_room old mid at l H = let m = H.moved in let n = wrote_length _ _ _ _ _ H in omega arith

    default_size : length (default_output s) ≡ t + 3
    unfolding default_output sequence_bytes
    default_size = let k = ap length blocks in omega arith

    pub default_full : (old : List ℕ) → length old < t + 3 → Promised L (call.default s old) (refused 10) (naturals old)
    unfolding describe
    default_full old l = room_full L (call.default s old) naturals (sheet s) [] (default_output s) [] old refl passed (let f = default_size in omega arith)

    pub default_done : (old mid new : List ℕ) (at next : ℕ) → t + 3 ≤ length old
        → Wrote old 0 (sequence_header t) mid at → Wrote mid at (blocks_of ss r.atoms) new next → Promised L (call.default s old) (answered (next ∷ [])) (naturals new)
    unfolding default_output sequence_bytes describe
    default_done old mid new at next l H B =
        room_done L (call.default s old) naturals (sheet s) [] (default_output s) [] old refl passed new next (let f = default_size in omega arith)
        (subst (λ b. Wrote old 0 b new next)
        (ap (λ b. sequence_header t ++ b) blocks ∙ ap (λ k. sequence_header k ++ default_sequence (program s)) (e ∙ ap length blocks))
        (wrote_append old mid new (sequence_header t) (blocks_of ss r.atoms) 0 at next H B))

-- A header, byte by byte.
pub header_written : (old a b new : List ℕ) (t x y z : ℕ) → Wrote old 0 (1 ∷ []) a x → Wrote a x (t / 256 % 256 ∷ []) b y → Wrote b y (t % 256 ∷ []) new z
    → Wrote old 0 (sequence_header t) new z
header_written old a b new t x y z U W X =
    wrote_append old b new (1 ∷ t / 256 % 256 ∷ []) (t % 256 ∷ []) 0 y z (wrote_append old a b (1 ∷ []) (t / 256 % 256 ∷ []) 0 x y U W) X
