-- Laws of the functions that extend a chain.
use mathlib.Core.Bool.{false, not}
use mathlib.Core.List.{List, [], ◌∷◌}
use mathlib.Core.Path.{◌≡◌, refl, sym, ◌∙◌, subst}
use Prim.Native.Nat.{ℕ, ◌+◌, ◌-◌, ◌≤◌, ◌<◌}
use native.Mathlib.Omega.{arith}
use borrow.Author.Tests.{eq-eqb, ltb-true}
use lib.Dec.{eqb, ltb}
use lib.ListN.{length, get_or, drop}
use Rattle.lists.specs.Lists.{range}
use Rattle.lists.proofs.Bools.{true_false, is_false, and_left, and_right, not_elim}
use Rattle.lists.proofs.Members.{range_in}
use Rattle.lists.proofs.Nodup.{nodup_range, filter_lt}
use Rattle.unfolding.proofs.Chains.{chain_one}
use Rattle.bits.specs.inner.Sets.{has, Without, Both}
use Rattle.bits.specs.inner.Listed.{RisesTo}
use Rattle.bits.specs.inner.Visited.{listed, Lowest}
use Rattle.chain_rows.specs.inner.Subsets.{AtPlaces, Followers}
use Rattle.chain_table.specs.inner.Filled.{Filled}
use Rattle.writer.specs.inner.Wrote.{Wrote}
use Rattle.writer.proofs.Writing.{wrote_append, wrote_length}
use Rattle.missing_places.specs.inner.Lacking.{Lacking}
use Rattle.positions.specs.inner.Positions.{Behind}
use Rattle.missing.specs.declared.Extension.{Extension}
use Rattle.missing.specs.inner.Extending.{LacksFrom, FirstMissing, Fits, SomeLacks, Next, ChainPut}
use Rattle.missing.proofs.Extensions.{first_last, some_place, next_lacks, next_first}

-- The extension behind L, from the parts that the code computes.
module _ (rows atoms : List ℕ) (k : ℕ) (few : k ≤ 10) (q : List ℕ) (L : Extension) (F : Fits k q L) (more : 1 < L.left) (x : ℕ) (is : x ≡ get_or atoms L.place 0) (from : ℕ) (B : Behind q L.from x from)
    (less : ℕ) (W : Without L.unused L.place less) where
  -- One place fewer.
  fewer : length (listed less) < length (listed L.unused)
  unfolding listed
  fewer =
      let l = F.low in
      filter_lt (has less) (has L.unused) (range 0 64) (nodup_range 0 64)
      (λ p m t. and_left (has L.unused p) (not (eqb p L.place)) (sym (W.members p) ∙ t))
      L.place (range_in 0 64 L.place (omega arith) (omega arith)) gone F.own
    where
      gone : has less L.place ≡ false
      gone = is_false (λ t. true_false (eq-eqb L.place L.place refl) (not_elim (and_right (has L.unused L.place) (not (eqb L.place L.place)) (sym (W.members L.place) ∙ t))))

  module _ (table : List ℕ) (T : Filled rows atoms k (drop from q) table) (after r both : ℕ) (G : Followers rows atoms k x after) (N : Lacking table less (L.left - 1) r) (M : Both after r both) where
    B' : Behind q L.from (get_or atoms L.place 0) from
    B' = subst (λ a. Behind q L.from a from) is B

    G' : Followers rows atoms k (get_or atoms L.place 0) after
    G' = subst (λ a. Followers rows atoms k a after) is G

    pub extension_some : SomeLacks rows atoms k q L → 0 < both
    extension_some S =
        let P = S.program in
        let K = S.setting in
        some_place P rows atoms k K few q L F more S.lacks from B' less W table (T.is P K) after r both G' N M

    pub extension_next : RisesTo atoms k → (d : ℕ) → Lowest both d → Next rows atoms k q L (record { from = from; unused = less; place = d; left = L.left - 1 })
    extension_next R d A =
        let h = sym (M.members d) ∙ A.is in
        let u = N.out d (and_right (has after d) (has r d) h) in
        record {
          fits =
              record {
                position = B.position;
                small = let h = F.small in let l = W.falls in omega arith;
                low = ltb-true d k (and_left (ltb d k) (has (get_or rows (get_or atoms d 0) 0) x) (sym (G.members d) ∙ and_left (has after d) (has r d) h));
                own = u.2.inside d u.2.own;
                some = omega arith;
              };
          fewer = fewer;
          left = omega arith;
          lacks = λ P K D. next_lacks P rows atoms k K few q L F more D from B' less W table (T.is P K) after r both G' N M d A;
          first = λ P K D. next_first P rows atoms k K few q L F more D from B' less W table (T.is P K) after r both G' N M d A R;
        }

-- The last atom, and one with others behind it.
module _ (rows atoms : List ℕ) (k : ℕ) (q : List ℕ) (L : Extension) (F : Fits k q L) (old : List ℕ) (at : ℕ) where
  pub put_last : (new : List ℕ) (r : ℕ) → L.left ≤ 1 → Wrote old at (get_or atoms L.place 0 ∷ []) new r → ChainPut rows atoms k q L old at new r
  put_last new r l A =
      let some = F.some in
      let one : 1 ≡ L.left = omega arith in
      record {
        rest = [];
        wrote = A;
        first = λ P K D.
            let s = drop L.from q in
            let a = get_or atoms L.place 0 in
            subst (λ m. FirstMissing P s (AtPlaces atoms k L.unused) a m []) one
            (first_last P s (AtPlaces atoms k L.unused) a (chain_one P K.formed a (K.low L.place F.low)) (L.place, F.low, refl, F.own)
            (subst (LacksFrom P s (AtPlaces atoms k L.unused) a) (sym one) D));
      }

  pub put_more : (mid new : List ℕ) (next r : ℕ) (R : Extension) → Wrote old at (get_or atoms L.place 0 ∷ []) mid next → Next rows atoms k q L R → ChainPut rows atoms k q R mid next new r
      → ChainPut rows atoms k q L old at new r
  put_more mid new next r R A N C =
      record {
        rest = get_or atoms R.place 0 ∷ C.rest;
        wrote = wrote_append old mid new (get_or atoms L.place 0 ∷ []) (get_or atoms R.place 0 ∷ C.rest) at next r A C.wrote;
        first = λ P K D. N.first P K D C.rest (C.first P K (N.lacks P K D));
      }

pub next_some : (rows atoms : List ℕ) (k : ℕ) (q : List ℕ) (L R : Extension) → Next rows atoms k q L R → SomeLacks rows atoms k q L → SomeLacks rows atoms k q R
next_some rows atoms k q L R N S = record { program = S.program; setting = S.setting; lacks = N.lacks S.program S.setting S.lacks }

-- Room for the atoms left.
pub put_room : (rows atoms : List ℕ) (k : ℕ) (q : List ℕ) (L R : Extension) (at a : ℕ) (old mid : List ℕ) (next : ℕ) → Next rows atoms k q L R → at + L.left ≤ length old → Wrote old at (a ∷ []) mid next
    → next + R.left ≤ length mid
put_room rows atoms k q L R at a old mid next N l A = let e = N.left in let m = wrote_length old at (a ∷ []) mid next A in let n = A.moved in omega arith
