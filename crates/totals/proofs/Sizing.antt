-- Laws of the sizes of bodies, and of the loops that store them and add them up.
use mathlib.Core.List.{List, [], ◌∷◌, map, Memᴰ}
use mathlib.Core.Path.{◌≡◌, refl, sym, ◌∙◌, ap, subst}
use Prim.Native.Nat.{ℕ, ◌+◌, ◌-◌, ◌*◌, ◌^◌, ◌≤◌, ◌<◌}
use native.Mathlib.Omega.{arith}
use borrow.Author.Tests.{eqb-true, eqb-false}
use lib.Dec.{eqb}
use native.Mathlib.Numerals.{add-one}
use lib.Seq.{drop-cons}
use lib.ListN.{length, length-append, get_or, drop, drop_of_length-le, set, length-set, replicate, length-replicate, get_or-replicate}
use Rattle.lists.proofs.Bools.{by_bool}
use Rattle.lists.proofs.Members.{range_left, range_over}
use Rattle.bits.specs.inner.Sets.{Size}
use Rattle.bits.specs.inner.Visited.{listed}
use Rattle.bits.proofs.Visiting.{listed_few}
use Rattle.program.specs.inner.Held.{table_rule, added_atom, body_of, bodies_at}
use Rattle.program.specs.declared.TableRule.{TableRule}
use Rattle.copies.specs.inner.Bodies.{negative_atoms, body_atoms, atom_count}
use Rattle.copies.specs.inner.Kept.{Inside}
use Rattle.copies.proofs.Tables.{stored}
use Rattle.copies.proofs.Keeping.{added_few, atoms_append}
use Rattle.totals.specs.inner.Totals.{atoms_at, SmallSizes, SizesOf, sum_at, ListedSum}

-- How many atoms a body has.
pub atoms_sized : (r : TableRule) (p n : ℕ) → Size r.pos p → n ≡ negative_atoms r.neg r.added → p + n ≡ body_atoms r
unfolding body_atoms listed
atoms_sized r p n P N = let e = P.is in omega arith

atoms_few : (r : TableRule) → body_atoms r ≤ 129
unfolding body_atoms negative_atoms
atoms_few r = let p = listed_few r.pos in let n = listed_few r.neg in let a = added_few r.added in omega arith

atoms_one : (r : TableRule) → atom_count (body_of r ∷ []) ≡ body_atoms r
unfolding atom_count body_of body_atoms negative_atoms
atoms_one r = let e = length-append (listed r.neg) (added_atom r.added) in omega arith

pub size_fits : (r : TableRule) (k : ℕ) → k ≡ body_atoms r → k < 256
size_fits r k e = let f = atoms_few r in omega arith

-- The loop over the bodies whose sizes are stored.
pub record Sizing (t p : List ℕ) (rules : ℕ) (sizes : List ℕ) (j : ℕ) : Type 0 where
  pub long : length sizes ≡ 192
  pub within : j ≤ rules
  pub so_far : SizesOf t p j sizes

module _ (t p : List ℕ) where
  pub sizing_start : (rules : ℕ) → Sizing t p rules (replicate 192 0) 0
  sizing_start rules =
      record {
        long = length-replicate {A = ℕ} 192 0;
        within = omega arith;
        so_far = record { is = λ i l. absurd (omega arith); small = record { low = λ i l. let e = get_or-replicate {A = ℕ} 192 i 0 0 l in omega arith } };
      }

  module _ (rules : ℕ) (sizes : List ℕ) (j : ℕ) (S : Sizing t p rules sizes j) where
    pub sizing_turn : j < rules → rules ≤ 192 → (r : TableRule) (k : ℕ) → r ≡ table_rule t p j → k ≡ body_atoms r → Sizing t p rules (set sizes j k) (j + 1)
    sizing_turn lt most r k d e =
        record { long = length-set sizes j k ∙ S.long; within = omega arith; so_far = record { is = same; small = record { low = few } } }
      where
        index : j < length sizes
        index = let z = S.long in omega arith

        same : (i : ℕ) → i < j + 1 → get_or (set sizes j k) i 0 ≡ body_atoms (table_rule t p i)
        same i h =
            stored sizes j k i index
            ∙ by_bool (eqb i j)
            (λ y. rw y (e ∙ (ap body_atoms d ∙ ap (λ x. body_atoms (table_rule t p x)) (sym (eqb-true i j y)))))
            (λ z. rw z (let ne = eqb-false i j z in S.so_far.is i (omega arith)))

        few : (i : ℕ) → i < 192 → get_or (set sizes j k) i 0 ≤ 129
        few i h =
            subst (λ x. x ≤ 129) (sym (stored sizes j k i index))
            (by_bool (eqb i j) (λ y. rw y (let f = atoms_few r in omega arith)) (λ z. rw z (S.so_far.small.low i h)))

  -- The sum of the sizes of some bodies.
  pub sum_atoms : (rules : ℕ) (sizes : List ℕ) → SizesOf t p rules sizes → (l : List ℕ) → ((i : ℕ) → Memᴰ i l → i < rules)
      → sum_at sizes l ≡ atom_count (map (λ i. body_of (table_rule t p i)) l)
  unfolding sum_at atom_count
  sum_atoms rules sizes S [] h = refl
  sum_atoms rules sizes S (i ∷ l) h =
      let e = S.is i (h i (Memᴰ.head refl)) in
      let f = sum_atoms rules sizes S l (λ j m. h j (Memᴰ.tail m)) in
      let g = atoms_one (table_rule t p i) in
      omega arith

-- The loop over the entries that are listed: with those that are left the sum is that of all.
pub record Summing (sizes listed : List ℕ) (sum j : ℕ) : Type 0 where
  pub small : sum ≤ 129 * j
  pub within : j ≤ length listed
  pub rest : sum + sum_at sizes (drop j listed) ≡ sum_at sizes listed

module _ (sizes listed : List ℕ) where
  module _ (sum j : ℕ) (K : Summing sizes listed sum j) where
    module _ (lt : j < length listed) (I : Inside listed) (i : ℕ) (L : i ≡ get_or listed j 0) where
      pub summing_low : i < 192
      summing_low = rw L (I.low j lt)

      module _ (S : SmallSizes sizes) (n : ℕ) (N : n ≡ get_or sizes i 0) where
        pub summing_turn : Summing sizes listed (sum + n) (j + 1)
        unfolding sum_at
        summing_turn =
            let s = K.small in
            let g = S.low i summing_low in
            let here = N ∙ ap (λ x. get_or sizes x 0) L in
            let first = ap (sum_at sizes) (drop-cons listed j 0 lt ∙ ap (λ k. get_or listed j 0 ∷ drop k listed) (sym (add-one j))) in
            let r = K.rest in
            record { small = omega arith; within = omega arith; rest = omega arith }

    pub summing_end : length listed ≤ j → ListedSum sizes listed sum
    unfolding sum_at
    summing_end l =
        let none = ap (sum_at sizes) (drop_of_length-le listed l) in
        let r = K.rest in
        let s = K.small in
        let w = K.within in
        record { is = omega arith; small = omega arith }

-- The loop over the bodies whose atoms are counted.
pub record Adding (t p : List ℕ) (from to atoms j : ℕ) : Type 0 where
  pub start : from ≤ j
  pub within : j ≤ to
  pub small : atoms + 129 * from ≤ 129 * j
  pub rest : atoms + atoms_at t p j to ≡ atoms_at t p from to

module _ (t p : List ℕ) (from to : ℕ) where
  pub adding_start : from ≤ to → Adding t p from to 0 from
  adding_start l = record { start = omega arith; within = l; small = omega arith; rest = omega arith }

  module _ (atoms j : ℕ) (K : Adding t p from to atoms j) where
    pub adding_room : (r : TableRule) (k : ℕ) → j < to → to ≤ 192 → k ≡ body_atoms r → atoms + k < 2 ^ 64
    adding_room r k l m e = let s = K.small in let f = atoms_few r in omega arith

    pub adding_turn : (r : TableRule) (k : ℕ) → j < to → r ≡ table_rule t p j → k ≡ body_atoms r → Adding t p from to (atoms + k) (j + 1)
    unfolding atoms_at bodies_at
    adding_turn r k l d e =
        let first : atoms_at t p j to ≡ k + atoms_at t p (j + 1) to =
        ap (λ es. atom_count (map (λ i. body_of (table_rule t p i)) es)) (range_left j to l)
        ∙ (atoms_append (body_of (table_rule t p j) ∷ []) (bodies_at t p (j + 1) (to - (j + 1)))
        ∙ ap (λ x. x + atoms_at t p (j + 1) to) (atoms_one (table_rule t p j) ∙ (ap body_atoms (sym d) ∙ sym e))) in
        record {
          start = let f = K.start in omega arith;
          within = omega arith;
          small = let s = K.small in let f = atoms_few r in omega arith;
          rest = let r = K.rest in omega arith;
        }

    pub adding_end : to ≤ j → atoms ≡ atoms_at t p from to
    unfolding atoms_at bodies_at atom_count
    adding_end l = let r = K.rest in let none = ap (λ es. atom_count (map (λ i. body_of (table_rule t p i)) es)) (range_over j to l) in omega arith
