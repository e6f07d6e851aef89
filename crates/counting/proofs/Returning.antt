-- Laws of the tables that say where a pass goes on.
use mathlib.Core.Bool.{true, false, not}
use mathlib.Core.List.{List}
use mathlib.Core.Logic.{⊎_elim}
use mathlib.Core.Path.{◌≡◌, refl, sym, ◌∙◌, ap, subst}
use Prim.Native.Nat.{ℕ, ◌+◌, ◌≤◌, ◌<◌, min}
use native.Mathlib.Omega.{arith}
use borrow.Author.Tests.{eqb-true, eqb-false}
use lib.Dec.{eqb}
use lib.ListN.{length, get_or, set, length-set, replicate, length-replicate}
use lib.Seq.{get_or-set_same, get_or-set_other}
use Rattle.lists.proofs.Bools.{by_bool, true_false, is_false, is_true, and_intro, and_left, and_right, or_cases, or_left, or_right, not_intro, not_elim}
use Rattle.asp.specs.LeastModel.{Inside}
use Rattle.bits.specs.inner.Sets.{has, Either, Difference}
use Rattle.bits.specs.inner.Visited.{Lowest, Rest}
use Rattle.bits.proofs.Digits.{zero_has}
use Rattle.tables.specs.inner.Rows.{row_at}
use Rattle.tables.specs.declared.SheetRecord.{SheetRecord}
use Rattle.search.specs.inner.Rules.{LowHeads, Returning}
use Rattle.counting.specs.inner.Returns.{Entered, Firsts}

-- Entering j for the atoms of a set, those left still to do.
pub record Entering (at₀ : List ℕ) (set j left : ℕ) (at : List ℕ) : Type 0 where
  pub long : length at ≡ 64
  pub within : Inside (has left) (has set)
  pub new : (a : ℕ) → has set a ≡ true → has left a ≡ false → get_or at a 0 ≡ j
  pub old : (a : ℕ) → has set a ≡ false → get_or at a 0 ≡ get_or at₀ a 0

module _ (at₀ : List ℕ) (x j : ℕ) where
  pub entering_start : length at₀ ≡ 64 → Entering at₀ x j x at₀
  entering_start l = record { long = l; within = λ a t. t; new = λ a t f. absurd (true_false t f); old = λ a f. refl }

  pub entering_turn : (left a left' : ℕ) (at : List ℕ) → Entering at₀ x j left at → Lowest left a → Rest left left' → Entering at₀ x j left' (set at a j)
  entering_turn left a left' at E L R =
      let W = R.without a L in
      record {
        long = length-set at a j ∙ E.long;
        within = λ b t. E.within b (and_left (has left b) (not (eqb b a)) (sym (W.members b) ∙ t));
        new = λ b t f. by_bool (eqb b a)
            (λ q. ap (λ i. get_or (set at a j) i 0) (eqb-true b a q) ∙ get_or-set_same at a j 0 (let n = E.long in let l = L.low in omega arith))
            (λ q. get_or-set_other at a b j 0 (eqb-false b a q)
            ∙ E.new b t (is_false (λ u. true_false (W.members b ∙ and_intro u (not_intro q)) f)));
        old = λ b f. get_or-set_other at a b j 0 (λ q. true_false (subst (λ i. has x i ≡ true) (sym q) (E.within a L.is)) f) ∙ E.old b f;
      }

  pub entering_end : (left : ℕ) (at : List ℕ) → Entering at₀ x j left at → left ≤ 0 → Entered at₀ x j at
  entering_end left at E l =
      let z : left ≡ 0 = omega arith in
      record { long = E.long; new = λ a t. E.new a t (ap (λ y. has y a) z ∙ zero_has a); old = E.old }

-- The positive atoms of the first j rules are seen.
pub record Meeting (t : List ℕ) (seen j : ℕ) (at : List ℕ) : Type 0 where
  pub long : length at ≡ 64
  pub unseen : (a : ℕ) → has seen a ≡ false → (i : ℕ) → i < j → has (row_at t i).pos a ≡ false
  pub near : (a : ℕ) → has seen a ≡ true → get_or at a 0 < j
  pub lacks : (a i : ℕ) → i < j → i < get_or at a 0 → has (row_at t i).pos a ≡ false

module _ (t : List ℕ) where
  pub meeting_start : Meeting t 0 0 (replicate 64 255)
  meeting_start =
      record {
        long = length-replicate {A = ℕ} 64 255;
        unseen = λ a f i l. absurd (omega arith);
        near = λ a h. absurd (true_false h (zero_has a));
        lacks = λ a i l h. absurd (omega arith);
      }

  module _ (seen j : ℕ) (at : List ℕ) (M : Meeting t seen j at) (r : SheetRecord) (same : r ≡ row_at t j) (new : ℕ) (at' : List ℕ) (seen' : ℕ)
      (D : Difference r.pos seen new) (E : Entered at new j at') (U : Either seen r.pos seen') where
    -- An atom that is not new is seen, if the rule at j has it.
    met : (a : ℕ) → has new a ≡ false → has r.pos a ≡ true → has seen a ≡ true
    met a f h = is_true (λ g. true_false (D.members a ∙ and_intro h (not_intro g)) f)

    -- The rule at j, wherever it is named by its index.
    at_j : (i a : ℕ) → i ≡ j → has (row_at t i).pos a ≡ has r.pos a
    at_j i a e = rw (e, same) refl

    unseen' : (a : ℕ) → has seen' a ≡ false → (i : ℕ) → i < j + 1 → has (row_at t i).pos a ≡ false
    unseen' a f i l =
        by_bool (eqb i j)
        (λ q. at_j i a (eqb-true i j q) ∙ is_false (λ h. true_false (U.members a ∙ or_right (has seen a) h) f))
        (λ q. let ne = eqb-false i j q in M.unseen a (is_false (λ h. true_false (U.members a ∙ or_left (has r.pos a) h) f)) i (omega arith))

    near' : (a : ℕ) → has seen' a ≡ true → get_or at' a 0 < j + 1
    near' a h =
        by_bool (has new a) (λ n. let e = E.new a n in omega arith)
        (λ n. let e = E.old a n in
        let l = M.near a (⊎_elim (λ s. s) (met a n) (or_cases (has seen a) (has r.pos a) (sym (U.members a) ∙ h))) in
        omega arith)

    lacks' : (a i : ℕ) → i < j + 1 → i < get_or at' a 0 → has (row_at t i).pos a ≡ false
    lacks' a i l h =
        by_bool (has new a)
        (λ n. let e = E.new a n in
        M.unseen a (not_elim (and_right (has r.pos a) (not (has seen a)) (sym (D.members a) ∙ n))) i (omega arith))
        (λ n. let e = E.old a n in
        by_bool (eqb i j)
        (λ q. let s = eqb-true i j q in is_false (λ o. let far = M.near a (met a n (sym (at_j i a s) ∙ o)) in omega arith))
        (λ q. let ne = eqb-false i j q in M.lacks a i (omega arith) (omega arith)))

    pub meeting_turn : Meeting t seen' (j + 1) at'
    meeting_turn = record { long = E.long; unseen = unseen'; near = near'; lacks = lacks' }

  pub meeting_end : (k seen j : ℕ) (at : List ℕ) → Meeting t seen j at → k ≤ j → Firsts t k at
  meeting_end k seen j at M l = record { lacks = λ a i h n. M.lacks a i (omega arith) n }

-- The first j entries of the table of returns are right.
pub record Filling (t at : List ℕ) (k j : ℕ) : Type 0 where
  pub long : length at ≡ 128
  pub within : j ≤ k
  pub done : Returning t at j

pub filling_start : (t : List ℕ) (k : ℕ) → Filling t (replicate 128 0) k 0
filling_start t k =
    record { long = length-replicate {A = ℕ} 128 0; within = omega arith; done = record { near = λ i l. absurd (omega arith); lacks = λ i l. absurd (omega arith) } }

pub filling_turn : (t at first : List ℕ) (r : SheetRecord) (k j h next : ℕ) → Filling t at k j → j < k → k ≤ 128 → Firsts t k first → r ≡ row_at t j → h ≡ r.head
    → next ≡ min (get_or first h 0) (j + 1) → Filling t (set at j next) k (j + 1)
filling_turn t at first r k j h next E l few F same e S =
    record {
      long = length-set at j next ∙ E.long;
      within = omega arith;
      done = record {
        near = λ i m. by_bool (eqb i j)
            (λ q. let s = eqb-true i j q in let v = here i s in omega arith)
            (λ q. let ne = eqb-false i j q in let v = there i ne in let n = E.done.near i (omega arith) in omega arith);
        lacks = λ i m i' lt. by_bool (eqb i j)
            (λ q. let s = eqb-true i j q in
            let v = here i s in
            ap (λ b. has (row_at t i').pos b) (ap (λ i. (row_at t i).head) s ∙ sym head) ∙ F.lacks h i' (omega arith) (omega arith))
            (λ q. let ne = eqb-false i j q in let v = there i ne in E.done.lacks i (omega arith) i' (omega arith));
      };
    }
  where
    head : h ≡ (row_at t j).head
    head = rw same at e

    here : (i : ℕ) → i ≡ j → get_or (set at j next) i 0 ≡ next
    here i s =
        ap (λ i. get_or (set at j next) i 0) s
        ∙ get_or-set_same at j next 0 (let n = E.long in omega arith)

    there : (i : ℕ) → (i ≡ j → ⊥) → get_or (set at j next) i 0 ≡ get_or at i 0
    there i ne = get_or-set_other at j i next 0 ne

pub filling_end : (t at : List ℕ) (k j : ℕ) → Filling t at k j → k ≤ j → Returning t at k
filling_end t at k j E l = let w = E.within in let e : j ≡ k = omega arith in subst (Returning t at) e E.done

pub head_low : (t : List ℕ) (r : SheetRecord) (k j a : ℕ) → LowHeads t k → j < k → r ≡ row_at t j → a ≡ r.head → a < 64
head_low t r k j a L l same e = rw (e, same) (L.low j l)
