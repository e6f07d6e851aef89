-- Laws of writing literals, and those of a set's atoms.
use mathlib.Core.Bool.{Bool, true, false, not}
use mathlib.Core.List.{List, [], ◌∷◌, map, map-map, flat_map, append-nil}
use mathlib.Core.Path.{◌≡◌, refl, sym, ◌∙◌, ap, subst}
use Prim.Native.Nat.{ℕ, zero, suc, ◌+◌, ◌<◌, ◌≤◌}
use native.Mathlib.Omega.{arith}
use lib.IntN.{ℤ, pos, neg_ℤ}
use lib.ListN.{length, length-map, get_or}
use Rattle.lists.proofs.Members.{map_cong}
use Rattle.unfolding.specs.Clauses.{Literal, negative, negated, signed, clause_words, signed_words}
use Rattle.unfolding.specs.Unfolded.{last}
use Rattle.bits.specs.inner.Visited.{listed, Lowest, Rest}
use Rattle.program.specs.inner.Held.{added_atom}
use Rattle.writer.specs.inner.Wrote.{Wrote}
use Rattle.writer.proofs.Writing.{wrote_append}
use Rattle.writer.proofs.Loops.{flat_map_one, flat_map_map, SetLeft, set_turn, set_room, set_end}
use Rattle.copies.specs.inner.Tables.{Values}
use Rattle.rule_clauses.specs.inner.Literals.{literal_of, literal_by, pairs, pairs_words, flipped, flipped_words, added_literals, added_pair_words, added_flipped_words, SmallVariables}

-- One literal.
module _ (old new : List ℤ) (at r v : ℕ) (plain : Bool) where
  pub literal_plain : plain ≡ true → Wrote old at (pos v ∷ []) new r → Wrote old at (signed (literal_of plain v) ∷ []) new r
  unfolding signed literal_of
  literal_plain t W = rw t W

  pub literal_negated : plain ≡ false → Wrote old at (neg_ℤ (pos v) ∷ []) new r → Wrote old at (signed (literal_of plain v) ∷ []) new r
  unfolding signed literal_of
  literal_negated f W = rw f W

-- Two literals and 0.
pub two_wrote : (old o₁ o₂ new : List ℤ) (at p₁ p₂ r : ℕ) (k l : Literal) → Wrote old at (signed k ∷ []) o₁ p₁ → Wrote o₁ p₁ (signed l ∷ []) o₂ p₂ → Wrote o₂ p₂ (pos 0 ∷ []) new r
    → Wrote old at (clause_words (k ∷ l ∷ [])) new r
unfolding clause_words
two_wrote old o₁ o₂ new at p₁ p₂ r k l W₁ W₂ W₃ = wrote_append _ _ _ _ _ _ _ _ W₁ (wrote_append _ _ _ _ _ _ _ _ W₂ W₃)

pub two_size : (k l : Literal) → length (clause_words (k ∷ l ∷ [])) ≡ 3
unfolding clause_words
two_size k l = refl

negated_of : (plain : Bool) (v : ℕ) → negated (literal_of plain v) ≡ literal_of (not plain) v
unfolding negated literal_of
negated_of true v = refl
negated_of false v = refl

-- The variables that stand for atoms are small.
pub lowest_small : (vars : List ℕ) (x a : ℕ) → SmallVariables vars → Lowest x a → get_or vars a 0 < 2147483648
lowest_small vars x a S L = S.low a L.low

pub last_small : (lasts : List ℕ) → Values last lasts → SmallVariables lasts
unfolding last
last_small lasts F = record { low = λ b l. let e = F.is b l in omega arith }

-- The literals of a set's atoms, negated.
module _ (vars : List ℕ) (plain : Bool) where
  abbrev flipped_one : ℕ → List ℤ
  flipped_one b = signed (literal_of (not plain) (get_or vars b 0)) ∷ []

  abbrev pub FlippedLeft : List ℤ → ℕ → ℕ → List ℤ → ℕ → ℕ → Type 0
  FlippedLeft = SetLeft flipped_one

  flipped_are : (x : ℕ) → flat_map flipped_one (listed x) ≡ flipped_words vars plain x
  unfolding flipped_words flipped literal_by
  flipped_are x =
      flat_map_one (λ b. signed (literal_of (not plain) (get_or vars b 0))) (listed x)
      ∙ sym (map-map signed (λ b. negated (literal_by vars plain b)) (listed x)
      ∙ map_cong (λ b. signed (negated (literal_by vars plain b))) (λ b. signed (literal_of (not plain) (get_or vars b 0))) (listed x) (λ b m. ap signed (negated_of plain (get_or vars b 0))))

  pub flipped_size : (x : ℕ) → length (flipped_words vars plain x) ≡ length (listed x)
  unfolding flipped_words flipped
  flipped_size x = length-map (flipped vars plain x) signed ∙ length-map {B = Literal} (listed x) (λ b. negated (literal_by vars plain b))

  module _ (old : List ℤ) (at x : ℕ) where
    module _ (cur : List ℤ) (next left : ℕ) (S : FlippedLeft old at x cur next left) where
      pub flipped_room : (a : ℕ) → 0 < left → Lowest left a → at + length (listed x) ≤ length old → next < length cur
      flipped_room a p L h =
          let k = ap length (flipped_are x) ∙ flipped_size x in
          let e = set_room flipped_one old at x cur next left S a p L (let l : at + length (flat_map flipped_one (listed x)) ≤ length old = omega arith in l) in
          omega arith

      pub flipped_turn : (a r : ℕ) → Lowest left a → Rest left r → (new : List ℤ) (behind : ℕ) → Wrote cur next (signed (literal_of (not plain) (get_or vars a 0)) ∷ []) new behind
          → FlippedLeft old at x new behind r
      flipped_turn a r L R new behind W = set_turn flipped_one old at x cur next left S a r L R new behind W

      pub flipped_end : left ≤ 0 → Wrote old at (flipped_words vars plain x) cur next
      flipped_end h = subst (λ ws. Wrote old at ws cur next) (flipped_are x) (set_end flipped_one old at x cur next left S h)

-- The clauses of -d and one literal each.
module _ (vars : List ℕ) (plain : Bool) (d : ℕ) where
  abbrev pair_one : ℕ → List ℤ
  pair_one b = clause_words (literal_of false d ∷ literal_of plain (get_or vars b 0) ∷ [])

  abbrev pub PairsLeft : List ℤ → ℕ → ℕ → List ℤ → ℕ → ℕ → Type 0
  PairsLeft = SetLeft pair_one

  pairs_are : (x : ℕ) → flat_map pair_one (listed x) ≡ pairs_words vars plain d x
  unfolding pairs_words signed_words pairs literal_by literal_of
  pairs_are x = sym (flat_map_map clause_words (λ b. negative d ∷ literal_by vars plain b ∷ []) (listed x))

  module _ (old : List ℤ) (at x : ℕ) where
    module _ (cur : List ℤ) (next left : ℕ) (S : PairsLeft old at x cur next left) where
      pub pairs_room : (a : ℕ) → 0 < left → Lowest left a → at + length (pairs_words vars plain d x) ≤ length old → next + 3 ≤ length cur
      pairs_room a p L h =
          let e = set_room pair_one old at x cur next left S a p L (subst (λ ws. at + length ws ≤ length old) (sym (pairs_are x)) h) in
          let k = two_size (literal_of false d) (literal_of plain (get_or vars a 0)) in
          omega arith

      pub pairs_turn : (a r : ℕ) → Lowest left a → Rest left r → (new : List ℤ) (behind : ℕ) → Wrote cur next (clause_words (literal_of false d ∷ literal_of plain (get_or vars a 0) ∷ [])) new behind
          → PairsLeft old at x new behind r
      pairs_turn a r L R new behind W = set_turn pair_one old at x cur next left S a r L R new behind W

      pub pairs_end : left ≤ 0 → Wrote old at (pairs_words vars plain d x) cur next
      pairs_end h = subst (λ ws. Wrote old at ws cur next) (pairs_are x) (set_end pair_one old at x cur next left S h)

-- The literal of an added atom.
added_none : (added : ℕ) → added ≡ 0 → added_literals added ≡ []
unfolding added_literals added_atom
added_none added z = rw z refl

added_one : (added : ℕ) → (added ≡ 0 → ⊥) → added_literals added ≡ literal_of false added ∷ []
unfolding added_literals added_atom last literal_of
added_one zero ne = absurd (ne refl)
added_one (suc a) ne = refl

pub added_size : (added : ℕ) → length (added_flipped_words added) ≡ length (added_atom added)
unfolding added_flipped_words added_literals
added_size added =
    length-map (map negated (added_literals added)) signed
    ∙ (length-map (added_literals added) negated ∙ length-map {B = Literal} (added_atom added) (λ b. negative (last b)))

module _ (added : ℕ) (old : List ℤ) (at : ℕ) where
  wrote_none : Wrote old at [] old at
  wrote_none = record { stored = refl; moved = omega arith }

  module _ (z : added ≡ 0) where
    pub pair_none : (d : ℕ) → Wrote old at (added_pair_words d added) old at
    unfolding added_pair_words signed_words flat_map
    pair_none d = rw (added_none added z) wrote_none

    pub flip_none : Wrote old at (added_flipped_words added) old at
    unfolding added_flipped_words
    flip_none = rw (added_none added z) wrote_none

  module _ (ne : added ≡ 0 → ⊥) where
    pair_is : (d : ℕ) → added_pair_words d added ≡ clause_words (literal_of false d ∷ literal_of false added ∷ [])
    unfolding added_pair_words signed_words flat_map literal_of
    pair_is d = rw (added_one added ne) (append-nil (clause_words (negative d ∷ negative added ∷ [])))

    pub pair_room : (d : ℕ) → at + length (added_pair_words d added) ≤ length old → at + 3 ≤ length old
    pair_room d h = let e = ap length (pair_is d) in let k = two_size (literal_of false d) (literal_of false added) in omega arith

    pub pair_one_lem : (d v : ℕ) → v ≡ added → (new : List ℤ) (r : ℕ) → Wrote old at (clause_words (literal_of false d ∷ literal_of false v ∷ [])) new r → Wrote old at (added_pair_words d added) new r
    pair_one_lem d v e new r W = rw (pair_is d) (rw e at W)

    flip_is : added_flipped_words added ≡ pos added ∷ []
    unfolding added_flipped_words literal_of negated signed
    flip_is = rw (added_one added ne) refl

    pub flip_room : at + length (added_atom added) ≤ length old → at < length old
    flip_room h = let e = ap length flip_is in let k = added_size added in omega arith

    pub flip_one : (v : ℕ) → v ≡ added → (new : List ℤ) (r : ℕ) → Wrote old at (pos v ∷ []) new r → Wrote old at (added_flipped_words added) new r
    flip_one v e new r W = rw flip_is (rw e at W)
