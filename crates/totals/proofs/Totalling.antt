-- Laws of the totals of an unfolded program.
use mathlib.Core.List.{List, [], ◌∷◌, flat_map}
use mathlib.Core.Path.{◌≡◌, sym, ◌∙◌, ap}
use Prim.Native.Nat.{ℕ, ◌+◌, ◌-◌, ◌^◌, ◌≤◌, ◌<◌}
use native.Mathlib.Omega.{arith}
use lib.ListN.{length, length-append, get_or, take, drop, length-drop}
use lib.Seq.{get_or-drop, length-take-le}
use Rattle.std.proofs.lemmas.List.{take_rest}
use Rattle.asp.specs.Program.{Body}
use Rattle.unfolding.specs.Unfolded.{Copy, kept_for}
use Rattle.program.specs.inner.Held.{ProgramTable, bodies_at, program_in}
use Rattle.copies.specs.inner.Bodies.{atom_count, kept_bodies}
use Rattle.copies.specs.inner.Kept.{kept_entries, Selected}
use Rattle.copies.specs.inner.Ready.{Ready, unfolded_in}
use Rattle.copies.specs.declared.CopyStep.{CopyStep}
use Rattle.copies.proofs.Keeping.{atoms_append}
use Rattle.copies.proofs.Selecting.{kept_number, kept_atoms, entry_low}
use Rattle.copies.proofs.Going.{copy_of, extra_of, CopiesLeft, copies_start, copies_here, copies_turn, copies_end, entry_atom}
use Rattle.copies.proofs.Sizes.{rules_short, atoms_short, constraints_number, constraints_atoms, constraints_few, constraints_short}
use Rattle.totals.specs.inner.Totals.{atoms_at, SizesOf, sum_at, ListedSum, KeptTotals, TotalsOf}
use Rattle.totals.specs.declared.Totals.{Totals}
use Rattle.totals.proofs.Sizing.{sum_atoms}

-- The entry at an index of the slice behind the first three bytes.
module _ (q : List ℕ) (k : ℕ) where
  pub entry_within : k < length (take (length q - 3) (drop 3 q)) → 3 + k < length q
  entry_within l = let e = ap length (take_rest q 3) in let d = length-drop 3 q in omega arith

  pub entry_is : get_or (take (length q - 3) (drop 3 q)) k 0 ≡ get_or q (3 + k) 0
  entry_is = ap (λ l. get_or l k 0) (take_rest q 3) ∙ get_or-drop 3 q k 0

  pub entries_over : length (take (length q - 3) (drop 3 q)) ≤ k → length q ≤ 3 + k
  entries_over l = let e = ap length (take_rest q 3) in let d = length-drop 3 q in omega arith

-- With the rules of the copies that are left, and their atoms, the numbers are those of all copies.
pub record TotalsLeft (all-copies : List Copy) (rules atoms : ℕ) (extra : ℕ) (past copies : List Copy) : Type 0 where
  pub rules_left : rules + length (kept_bodies copies) ≡ length (kept_bodies all-copies)
  pub atoms_left : atoms + atom_count (kept_bodies copies) ≡ atom_count (kept_bodies all-copies)

-- The loop over the entries of a sequence.
pub record Totalling (t : ProgramTable) (q : List ℕ) (i keeping : ℕ) (list : List ℕ) (rules atoms : ℕ) : Type 0 where
  pub left : CopiesLeft t q i keeping (TotalsLeft (unfolded_in t q).copies rules atoms)
  pub long : length list ≡ 192

module _ (t : ProgramTable) (components q : List ℕ) (R : Ready t components q) where
  pub totalling_start : (list : List ℕ) → length list ≡ 192 → Totalling t q 3 0 list 0 0
  totalling_start list long =
      record { left = copies_start t q (TotalsLeft (unfolded_in t q).copies 0 0) (record { rules_left = omega arith; atoms_left = omega arith }); long = long }

  module _ (i keeping : ℕ) (before : List ℕ) (rules atoms : ℕ) (T : Totalling t q i keeping before rules atoms) where
    abbrev L : CopiesLeft t q i keeping (TotalsLeft (unfolded_in t q).copies rules atoms)
    L = T.left

    module _ (within : i < length q) (a : ℕ) (A : a ≡ get_or q i 0) where
      low : get_or q i 0 < t.atoms
      low = entry_atom t components q R i L.from within

      pub totalling_atom : a < 64
      totalling_atom = let l = low in let e = A in let f = R.readable.atoms in omega arith

      module _ (list : List ℕ) (s : CopyStep) (S : Selected t components a keeping list s) where
        abbrev kept : List Body
        kept = kept_for (program_in t) L.past (get_or q i 0)

        abbrev chosen : List ℕ
        chosen = kept_entries t (get_or q i 0) (get_or components (get_or q i 0) 0) keeping

        are : take s.kept list ≡ chosen
        are =
            S.kept.are
            ∙ (ap (λ x. kept_entries t a x keeping) S.component
            ∙ ap (λ x. kept_entries t x (get_or components x 0) keeping) A)

        number : length kept ≡ s.kept
        number =
            kept_number t components q R L.past keeping L.marks (get_or q i 0) low
            ∙ (ap length (sym are) ∙ length-take-le s.kept list (let l = S.kept.long in let f = S.kept.few in omega arith))

        -- With the copy in front of those that are left.
        abbrev Here : List Copy → Type 0
        Here cs = TotalsLeft (unfolded_in t q).copies rules atoms L.extra L.past (copy_of t q i L.extra L.past ∷ cs)

        pub totalling_rules : rules + s.kept < 2 ^ 64
        unfolding flat_map
        totalling_rules = fits _ (copies_here t q i keeping (TotalsLeft (unfolded_in t q).copies rules atoms) L within)
          where
            fits : (cs : List Copy) → Here cs → rules + s.kept < 2 ^ 64
            fits cs H = let u = H.rules_left in let f = length-append kept (kept_bodies cs) in let h = number in let g = rules_short t components q R in omega arith

        module _ (sizes : List ℕ) (Z : SizesOf t.records t.entries t.rules sizes) (sum : ℕ) (U : ListedSum sizes (take s.kept list) sum) where
          summed : atom_count kept ≡ sum
          summed =
              kept_atoms t components q R L.past keeping L.marks (get_or q i 0) low
              ∙ (sym (sum_atoms t.records t.entries t.rules sizes Z chosen (entry_low t components q R L.past keeping L.marks (get_or q i 0) low))
              ∙ (ap (sum_at sizes) (sym are) ∙ sym U.is))

          pub totalling_atoms : atoms + sum < 2 ^ 64
          unfolding flat_map
          totalling_atoms = fits _ (copies_here t q i keeping (TotalsLeft (unfolded_in t q).copies rules atoms) L within)
            where
              fits : (cs : List Copy) → Here cs → atoms + sum < 2 ^ 64
              fits cs H = let v = H.atoms_left in let f = atoms_append kept (kept_bodies cs) in let h = summed in let g = atoms_short t components q R in omega arith

          pub totalling_turn : (j : ℕ) → j ≡ i + 1 → Totalling t q j s.keeping list (rules + s.kept) (atoms + sum)
          unfolding flat_map
          totalling_turn j e = rw e
              record {
                left = copies_turn t q i keeping (TotalsLeft (unfolded_in t q).copies rules atoms) L within a s.kept s.keeping _ A number S.marked counted;
                long = S.kept.long;
              }
            where
              counted : (cs : List Copy) → Here cs → TotalsLeft (unfolded_in t q).copies (rules + s.kept) (atoms + sum) (extra_of q i L.extra) (copy_of t q i L.extra L.past ∷ L.past) cs
              counted cs H =
                  let u = H.rules_left in
                  let v = H.atoms_left in
                  let f = length-append kept (kept_bodies cs) in
                  let g = atoms_append kept (kept_bodies cs) in
                  let h = number in
                  let k = summed in
                  record { rules_left = omega arith; atoms_left = omega arith }

    pub totalling_end : length q ≤ i → KeptTotals (unfolded_in t q) (record { rules = rules; atoms = atoms; constraints = 0; literals = 0 })
    unfolding flat_map atom_count
    totalling_end l = all_counted (copies_end t q i keeping (TotalsLeft (unfolded_in t q).copies rules atoms) L l)
      where
        all_counted : TotalsLeft (unfolded_in t q).copies rules atoms L.extra L.past [] → KeptTotals (unfolded_in t q) (record { rules = rules; atoms = atoms; constraints = 0; literals = 0 })
        all_counted H = let e = H.rules_left in let f = H.atoms_left in record { rules = omega arith; atoms = omega arith }

  -- All totals.
  all_literals : atoms_at t.records t.entries t.rules (t.rules + t.constraints) ≡ atom_count (unfolded_in t q).constraints
  unfolding atoms_at
  all_literals =
      ap (λ k. atom_count (bodies_at t.records t.entries t.rules k)) (let e : t.rules + t.constraints - t.rules ≡ t.constraints = omega arith in e)
      ∙ constraints_atoms t components q R

  pub totals_are : (k : Totals) (literals : ℕ) → KeptTotals (unfolded_in t q) k → literals ≡ atoms_at t.records t.entries t.rules (t.rules + t.constraints)
      → TotalsOf (unfolded_in t q) (record { rules = k.rules; atoms = k.atoms; constraints = t.constraints; literals = literals })
  totals_are k literals K l =
      let c = constraints_number t components q R in
      let d = l ∙ all_literals in
      let e = K.rules in
      let f = K.atoms in
      let g = rules_short t components q R in
      let h = atoms_short t components q R in
      let i = constraints_few t components q R in
      let j = constraints_short t components q R in
      record { kept = record { rules = e; atoms = f }; constraints = c; literals = d; few_rules = omega arith; few_atoms = omega arith; few_constraints = omega arith; few_literals = omega arith }
