-- How many words an unfolded program has.
use mathlib.Core.List.{List, [], ◌∷◌, flat_map}
use mathlib.Core.Path.{◌≡◌, refl}
use Prim.Native.Nat.{ℕ, ◌+◌, ◌-◌, ◌*◌}
use native.Mathlib.Omega.{arith}
use lib.ListN.{length, length-append}
use Rattle.asp.specs.Program.{Body}
use Rattle.unfolding.specs.Unfolded.{Copy, Unfolded, body_words, copy_words, words}
use Rattle.program.specs.inner.Held.{ProgramTable}
use Rattle.copies.specs.inner.Bodies.{atom_count, kept_bodies}
use Rattle.copies.specs.inner.Ready.{Ready, unfolded_in}
use Rattle.copies.proofs.Keeping.{atoms_append}
use Rattle.copies.proofs.Sizes.{copies_number}
use Rattle.totals.specs.inner.Totals.{TotalsOf}
use Rattle.totals.specs.declared.Totals.{Totals}

pub bodies_size : (bs : List Body) → length (flat_map body_words bs) ≡ 2 * length bs + atom_count bs
unfolding flat_map body_words atom_count
bodies_size [] = refl
bodies_size (b ∷ bs) =
    let e = length-append (body_words b) (flat_map body_words bs) in
    let f = length-append b.pos b.neg in
    let g = bodies_size bs in
    omega arith

pub copies_size : (cs : List Copy) → length (flat_map copy_words cs) ≡ 2 * (length cs + length (kept_bodies cs)) + atom_count (kept_bodies cs)
unfolding flat_map copy_words atom_count
copies_size [] = refl
copies_size (c ∷ cs) =
    let e = length-append (copy_words c) (flat_map copy_words cs) in
    let f = bodies_size c.kept in
    let g = copies_size cs in
    let h = length-append c.kept (kept_bodies cs) in
    let i = atoms_append c.kept (kept_bodies cs) in
    omega arith

words_size : (U : Unfolded)
    → length (words U) ≡ 2 * (length U.copies + length (kept_bodies U.copies) + length U.constraints + 1) + atom_count (kept_bodies U.copies) + atom_count U.constraints
unfolding words
words_size U =
    let e = length-append (flat_map copy_words U.copies) (length U.constraints ∷ flat_map body_words U.constraints) in
    let f = copies_size U.copies in
    let g = bodies_size U.constraints in
    omega arith

module _ (t : ProgramTable) (components q : List ℕ) (R : Ready t components q) (k : Totals) (T : TotalsOf (unfolded_in t q) k) where
  pub length_is : 2 * (length q - 3 + k.rules + k.constraints + 1) + k.atoms + k.literals ≡ length (words (unfolded_in t q))
  length_is =
      let e = words_size (unfolded_in t q) in
      let f = copies_number t components q R in
      let g = T.kept.rules in
      let h = T.kept.atoms in
      let i = T.constraints in
      let j = T.literals in
      omega arith
