-- Laws of positions in a sequence, and of the one behind an atom.
use mathlib.Core.List.Sublistᴰ
use mathlib.Core.List.{List, [], ◌∷◌, Sublistᴰ, cons≢nil}
use mathlib.Core.Logic.{⊎_elim}
use mathlib.Core.Path.{◌≡◌, sym, ◌∙◌, ap, subst}
use Prim.Native.Nat.{ℕ, zero, suc, ◌+◌, ◌-◌, ◌≤◌, ◌<◌}
use native.Mathlib.Omega.{arith}
use lib.Dec.{eqb}
use lib.ListN.{length, get_or, take, drop, length-drop}
use lib.Seq.{drop-drop, take_all}
use Rattle.std.specs.Prelude.{Some, None, position}
use Rattle.lists.proofs.Sublists.{sublist_tail, sublist_mem}
use Rattle.bits.proofs.Places.{place_own, place_first, place_none}
use Rattle.positions.specs.inner.Positions.{Position, Behind}

module _ (q : List ℕ) (i : ℕ) (P : Position q i) where
  -- None passes 640 + 3: the sequence's end is the last.
  pub position_low : i ≤ 643
  position_low = let inside = P.inside in let short = P.short in omega arith

  -- The one behind an entry.
  pub position_next : i < length q → Position q (i + 1)
  position_next l = record { start = let h = P.start in omega arith; inside = omega arith; short = P.short }

  -- The end.
  pub position_end : Position q (length q)
  position_end = record { start = let start = P.start in let inside = P.inside in omega arith; inside = omega arith; short = P.short }

module _ (a : ℕ) (v : List ℕ) where
  -- What starts with a is found in a list just where the rest is found behind its first a.
  onward_at : (l : List ℕ) (p : ℕ) → ((j : ℕ) → j < p → get_or l j 0 ≡ a → ⊥) → Sublistᴰ (a ∷ v) l → Sublistᴰ v (drop (suc p) l)
  onward_at [] p first S = absurd (cons≢nil (Sublistᴰ.eq-nil S))
  onward_at (y ∷ l) zero first S = ⊎_elim (λ g. sublist_tail g) (λ g. g.1) (Sublistᴰ.cases_cons-cons S)
  onward_at (y ∷ l) (suc p) first S =
      ⊎_elim (λ g. onward_at l p (λ j h. first (suc j) (omega arith)) g) (λ g. absurd (first 0 (omega arith) (sym g.0))) (Sublistᴰ.cases_cons-cons S)

  back_at : (l : List ℕ) (p : ℕ) → p < length l → get_or l p 0 ≡ a → Sublistᴰ v (drop (suc p) l) → Sublistᴰ (a ∷ v) l
  back_at [] p h e S = absurd (omega arith)
  back_at (y ∷ l) zero h e S = Sublistᴰ.cons-cons (sym e) S
  back_at (y ∷ l) (suc p) h e S = Sublistᴰ.cons (back_at l p (omega arith) e S)

  none_at : (l : List ℕ) → ((j : ℕ) → j < length l → get_or l j 0 ≡ a → ⊥) → Sublistᴰ (a ∷ v) l → ⊥
  none_at [] none S = cons≢nil (Sublistᴰ.eq-nil S)
  none_at (y ∷ l) none S = ⊎_elim (λ g. none_at l (λ j h. none (suc j) (omega arith)) g) (λ g. none 0 (omega arith) (sym g.0)) (Sublistᴰ.cases_cons-cons S)

module _ (q : List ℕ) (from a : ℕ) (P : Position q from) where
  -- The entries from a position on, as the code has them.
  abbrev entries : List ℕ
  entries = take (length q - from) (drop from q)

  whole : entries ≡ drop from q
  whole = take_all (length q - from) (drop from q) (let e = length-drop from q in omega arith)

  module _ (p : ℕ) (e : Some p ≡ position (λ b. eqb b a) entries) where
    found : position (λ b. eqb b a) (drop from q) ≡ Some p
    found = rw whole at (sym e)

    pub behind_found : Behind q from a (from + p + 1)
    behind_found =
        let u = place_own (drop from q) a p found in
        let e = length-drop from q in
        let inside = P.inside in
        let start = P.start in
        let rest : drop (suc p) (drop from q) ≡ drop (from + p + 1) q = drop-drop (suc p) from q ∙ ap (λ j. drop j q) (let e : from + suc p ≡ from + p + 1 = omega arith in e) in
        record {
          position = position_next q (from + p) (record { start = omega arith; inside = omega arith; short = P.short }) (omega arith);
          onward = λ v S. subst (Sublistᴰ v) rest (onward_at a v (drop from q) p (place_first (drop from q) a p found) S);
          back = λ v m S. back_at a v (drop from q) p u.0 u.1 (subst (Sublistᴰ v) (sym rest) S);
        }

  pub behind_none : None ≡ position (λ b. eqb b a) entries → Behind q from a (length q)
  behind_none e =
      let none = place_none (drop from q) a (rw whole at (sym e)) in
      record {
        position = position_end q from P;
        onward = λ v S. absurd (none_at a v (drop from q) none S);
        back = λ v m S. absurd (none_at a [] (drop from q) none (sublist_mem m));
      }
