-- What is left of each output at a turn of its loop.
use mathlib.Core.List.{List, [], ◌∷◌, ◌++◌, map, map-id, flat_map}
use mathlib.Core.Path.{◌≡◌, refl, sym, ◌∙◌, ap, subst}
use Prim.Native.Nat.{ℕ, zero, suc, ◌+◌, ◌-◌, ◌*◌, ◌≤◌, ◌<◌}
use native.Mathlib.Nat.{sub-zero, mul-le-mul_left, mul-le-mul_right}
use native.Mathlib.Omega.{arith}
use borrow.Rule.Slice.PartMut.{put_mid}
use lib.ListN.{length, length-append, get_or, take, drop}
use lib.Seq.{drop-cons}
use Rattle.std.proofs.lemmas.List.{length-take-le, get_or-take}
use Rattle.lists.specs.Lists.{range, times}
use Rattle.lists.proofs.Members.{flat_map_cong, range_left, range_out, range_over}
use Rattle.unfolding.proofs.Default.{length_times}
use Rattle.bits.specs.inner.Sets.{Size}
use Rattle.bits.specs.inner.Visited.{listed, Lowest}
use Rattle.bits.proofs.Visiting.{listed_few}
use Rattle.writer.specs.inner.Wrote.{Wrote}
use Rattle.writer.proofs.Writing.{Left, left_room}
use Rattle.writer.proofs.Loops.{flat_map_one, SetLeft, set_room, set_end, RangeLeft, range_room, range_end}
use Rattle.text.proofs.Loops.{copied_wrote}
use Rattle.component_output.specs.inner.Names.{name_bytes, block_of, blocks_of, BlockLength}

-- The elements of a list from one on, by their places.
elements : (l : List ℕ) (k m : ℕ) → k + m ≤ length l → map (λ a. get_or l a 0) (range k m) ≡ take m (drop k l)
unfolding range
elements l k zero h = refl
elements l k (suc m) h = rw (drop-cons l k 0 (omega arith)) (ap (λ xs. get_or l k 0 ∷ xs) (elements l (suc k) m (omega arith)))

first_elements : (l : List ℕ) (n : ℕ) → n ≤ length l → map (λ a. get_or l a 0) (range 0 n) ≡ take n l
first_elements l n h = elements l 0 n (omega arith)

-- The names of the first n atoms.
module _ (names : List ℕ) (n : ℕ) (few : n ≤ 64) (long : length names ≡ 64) where
  names_are : name_bytes names n ≡ take n names
  unfolding name_bytes
  names_are = first_elements names n (omega arith)

  names_length : n ≡ length (name_bytes names n)
  names_length = sym (ap length names_are ∙ length-take-le n names (omega arith))

  module _ (old : List ℕ) (at : ℕ) (room : at + length (name_bytes names n) ≤ length old) where
    pub names_room : at + n ≤ length old
    names_room = let e = names_length in omega arith

    pub names_wrote : (new : List ℕ) → new ≡ take n names → Wrote old at (name_bytes names n) (put_mid at (at + n - at) old new) (at + n)
    names_wrote new e = copied_wrote old (name_bytes names n) new at n (e ∙ sym names_are) names_length room

-- The atoms of a set.
module _ (old : List ℕ) (at x : ℕ) where
  abbrev pub AtomsLeft : List ℕ → ℕ → ℕ → Type 0
  AtomsLeft = SetLeft (λ a. a ∷ []) old at x

  atoms_are : flat_map (λ a. a ∷ []) (listed x) ≡ listed x
  atoms_are = flat_map_one (λ a. a) (listed x) ∙ map-id (listed x)

  module _ (cur : List ℕ) (next left : ℕ) (S : AtomsLeft cur next left) where
    pub atoms_room : (a : ℕ) → 0 < left → Lowest left a → at + length (listed x) ≤ length old → next < length cur
    atoms_room a p L h =
        let r = set_room (λ a. a ∷ []) old at x cur next left S a p L (subst (λ ws. at + length ws ≤ length old) (sym atoms_are) h) in
        omega arith

    pub atoms_end : left ≤ 0 → Wrote old at (listed x) cur next
    atoms_end h = subst (λ ws. Wrote old at ws cur next) atoms_are (set_end (λ a. a ∷ []) old at x cur next left S h)

-- The turns of a block that are left: those from c to k - 1.
module _ (x : ℕ) where
  pub block_start : (k : ℕ) → Size x k → times (k - 0) (listed x) ≡ block_of x
  unfolding block_of listed
  block_start k Z = ap (λ i. times i (listed x)) (sub-zero k ∙ Z.is)

  pub block_next : (k c : ℕ) → c < k → times (k - c) (listed x) ≡ listed x ++ times (k - (c + 1)) (listed x)
  unfolding times
  block_next k c l = let e : k - c ≡ suc (k - (c + 1)) = omega arith in rw e refl

  pub block_room : (old cur : List ℕ) (at next k c : ℕ) → Left old at (block_of x) cur next (times (k - c) (listed x)) → c < k
      → at + length (block_of x) ≤ length old → next + length (listed x) ≤ length cur
  block_room old cur at next k c L l = left_room old at (block_of x) cur (listed x) (times (k - c) (listed x)) (times (k - (c + 1)) (listed x)) next L (block_next k c l)

  pub block_end : (k c : ℕ) → k ≤ c → times (k - c) (listed x) ≡ []
  unfolding times
  block_end k c l = let e : k - c ≡ 0 = omega arith in rw e refl

  -- The length of a block.
  module _ (k : ℕ) (Z : Size x k) where
    few : k ≤ 64
    unfolding listed
    few = let e = Z.is in omega (arith, listed_few x)

    pub block_fits : k * k ≤ 4096
    block_fits = let a = mul-le-mul_left k few in let b = mul-le-mul_right 64 few in omega arith

    pub block_length : BlockLength x (k * k)
    unfolding block_of listed
    block_length =
        let e : k ≡ length (listed x) = Z.is in
        record { is = sym (length_times (length (listed x)) (listed x) ∙ ap (λ i. i * i) (sym e)); small = block_fits }

module _ (sets : List ℕ) (n : ℕ) where
  taken : n ≤ 64 → length sets ≡ 64 → length (take n sets) ≡ n
  taken few long = length-take-le n sets (omega arith)

  -- The blocks from c on.
  abbrev blocks_from : ℕ → List ℕ
  blocks_from c = flat_map (λ c. block_of (get_or (take n sets) c 0)) (range c (n - c))

  blocks_start : blocks_from 0 ≡ blocks_of sets n
  unfolding blocks_of
  blocks_start =
      ap (λ k. flat_map (λ c. block_of (get_or (take n sets) c 0)) (range 0 k)) (sub-zero n)
      ∙ flat_map_cong (λ c. block_of (get_or (take n sets) c 0)) (λ c. block_of (get_or sets c 0)) (range 0 n) (λ c m.
      let r = range_out 0 n c m in
      ap block_of (get_or-take n sets c 0 (omega (arith, r.high))))

  blocks_next : (c : ℕ) → c < n → blocks_from c ≡ block_of (get_or (take n sets) c 0) ++ blocks_from (c + 1)
  unfolding flat_map
  blocks_next c l = ap (flat_map (λ c. block_of (get_or (take n sets) c 0))) (range_left c n l)

  blocks_size : (c : ℕ) → c < n → length (blocks_from c) ≡ length (block_of (get_or (take n sets) c 0)) + length (blocks_from (c + 1))
  blocks_size c l = ap length (blocks_next c l) ∙ length-append (block_of (get_or (take n sets) c 0)) (blocks_from (c + 1))

  -- The blocks of all components.
  module _ (old : List ℕ) (at : ℕ) where
    abbrev pub BlocksLeft : List ℕ → ℕ → ℕ → Type 0
    BlocksLeft = RangeLeft (λ c. block_of (get_or (take n sets) c 0)) old at 0 n

    module _ (cur : List ℕ) (next c : ℕ) (L : BlocksLeft cur next c) where
      pub blocks_room : n ≤ 64 → length sets ≡ 64 → c < length (take n sets) → at + length (blocks_of sets n) ≤ length old → next + length (block_of (get_or (take n sets) c 0)) ≤ length cur
      blocks_room few long l h = range_room (λ c. block_of (get_or (take n sets) c 0)) old at 0 n cur next c L (rw (taken few long) at l) (subst (λ ws. at + length ws ≤ length old) (sym blocks_start) h)

      pub blocks_wrote : n ≤ 64 → length sets ≡ 64 → length (take n sets) ≤ c → Wrote old at (blocks_of sets n) cur next
      blocks_wrote few long l = subst (λ ws. Wrote old at ws cur next) blocks_start (range_end (λ c. block_of (get_or (take n sets) c 0)) old at 0 n cur next c L (rw (taken few long) at l))

  blocks_end : (c : ℕ) → n ≤ c → blocks_from c ≡ []
  unfolding flat_map
  blocks_end c l = ap (flat_map (λ c. block_of (get_or (take n sets) c 0))) (range_over c n l)

  -- The blocks before c are counted.
  pub record Adding (c t : ℕ) : Type 0 where
    pub low : t ≤ c * 4096
    pub sum : t + length (blocks_from c) ≡ length (blocks_of sets n)

  pub adding_start : Adding 0 0
  adding_start = let e = ap length blocks_start in record { low = omega arith; sum = omega arith }

  pub adding_turn : (c t r : ℕ) → Adding c t → n ≤ 64 → length sets ≡ 64 → c < length (take n sets) → BlockLength (get_or (take n sets) c 0) r → Adding (c + 1) (t + r)
  adding_turn c t r K few long l B =
      let h = K.low in
      let s = K.sum in
      let e = B.is in
      let b = blocks_size c (rw (taken few long) at l) in
      record { low = omega (arith, B.small); sum = omega arith }

  pub adding_end : (c t : ℕ) → Adding c t → n ≤ 64 → length sets ≡ 64 → length (take n sets) ≤ c → t ≡ length (blocks_of sets n)
  adding_end c t K few long l = let e = ap length (blocks_end c (rw (taken few long) at l)) in let s = K.sum in omega arith
