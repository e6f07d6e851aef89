-- Laws of the loops that close the table.
use mathlib.Core.Bool.{Bool, true, false, ◌&&◌, ◌||◌, or-false}
use mathlib.Core.List.{List, ◌++◌}
use mathlib.Core.Path.{◌≡◌, refl, sym, ◌∙◌, ap, subst}
use Prim.Native.Nat.{ℕ, ◌+◌, ◌≤◌, ◌<◌}
use native.Mathlib.Numerals.{add-one}
use native.Mathlib.Omega.{arith}
use borrow.Author.Tests.{eqb-true, eqb-false}
use lib.Bits.{bit_or}
use lib.Dec.{eqb}
use lib.ListN.{length, get_or, set, take, drop, length-set, length-append, length-drop, get_or-append}
use lib.Seq.{get_or-set_same, get_or-set_other}
use Rattle.std.proofs.lemmas.List.{length-take-le, get_or-take}
use Rattle.lists.proofs.Bools.{by_bool}
use Rattle.bits.specs.inner.Sets.{has}
use Rattle.bits.proofs.Digits.{or_has}
use Rattle.components.specs.inner.Reachability.{Relation, closure, Holds, RowThrough, ClosedBy, ClosedTable}

module _ (x k row : ℕ) where
  pub row_union : (b : Bool) → b ≡ has x k → b ≡ true → RowThrough x k row (bit_or x row)
  row_union b e t = record { bits = λ i. or_has x row i ∙ ap (λ (y : Bool). has x i || y && has row i) (sym (sym e ∙ t)) }

  pub row_same : (b : Bool) → b ≡ has x k → b ≡ false → RowThrough x k row x
  row_same b e f = record { bits = λ i. sym (ap (λ (y : Bool). has x i || y && has row i) (sym e ∙ f) ∙ or-false (has x i)) }

-- The first n rows: those before a are through the round, the others are as they were.
pub record Closing (k n : ℕ) (rows₀ : List ℕ) (row : ℕ) (a : ℕ) (rows : List ℕ) : Type 0 where
  pub whole : length rows₀ ≡ 64
  pub fits : n ≤ 64
  pub long : length rows ≡ n
  pub own : row ≡ get_or rows₀ k 0
  pub done : (i : ℕ) → i < a → RowThrough (get_or rows₀ i 0) k row (get_or rows i 0)
  pub left : (i : ℕ) → a ≤ i → i < n → get_or rows i 0 ≡ get_or rows₀ i 0

module _ (k n : ℕ) (rows₀ : List ℕ) where
  pub closing_start : (row : ℕ) → length rows₀ ≡ 64 → n ≤ 64 → row ≡ get_or rows₀ k 0 → Closing k n rows₀ row 0 (take n rows₀)
  closing_start row w f e =
      record {
        whole = w;
        fits = f;
        long = length-take-le n rows₀ (omega arith);
        own = e;
        done = λ i l. absurd (omega arith);
        left = λ i _ l. get_or-take n rows₀ i 0 l;
      }

  pub closing_turn : (row a r : ℕ) (rows : List ℕ) → Closing k n rows₀ row a rows → a < length rows → RowThrough (get_or rows a 0) k row r
      → Closing k n rows₀ row (a + 1) (set rows a r)
  closing_turn row a r rows C l T =
      record {
        whole = C.whole;
        fits = C.fits;
        long = length-set rows a r ∙ C.long;
        own = C.own;
        done = λ i h. by_bool (eqb i a) (λ t. here i (eqb-true i a t)) (λ f. let ne = eqb-false i a f in
            subst (λ x. RowThrough (get_or rows₀ i 0) k row x) (sym (get_or-set_other rows a i r 0 ne)) (C.done i (omega arith)));
        left = λ i h m. get_or-set_other rows a i r 0 (λ e. omega arith) ∙ C.left i (omega arith) m;
      }
    where
      here : (i : ℕ) → i ≡ a → RowThrough (get_or rows₀ i 0) k row (get_or (set rows a r) i 0)
      here i e =
          subst (λ j. RowThrough (get_or rows₀ j 0) k row (get_or (set rows a r) j 0)) (sym e)
          (subst (λ x. RowThrough (get_or rows₀ a 0) k row x) (sym (get_or-set_same rows a r 0 (let u = C.long in omega arith)))
          (subst (λ x. RowThrough x k row r) (C.left a (omega arith) (let u = C.long in omega arith)) T))

  pub closing_end : (row a : ℕ) (rows : List ℕ) → Closing k n rows₀ row a rows → length rows ≤ a → k < n → ClosedBy k n rows₀ (rows ++ drop n rows₀)
  closing_end row a rows C l kn =
      record {
        long = stays;
        closes = λ R H. record {
          long = stays ∙ H.long;
          bits = λ i h b. let m = C.long in ap (λ y. has y b) (get_or-append rows (drop n rows₀) 0 i (omega arith))
              ∙ ((C.done i (omega arith)).bits b
              ∙ (ap (λ y. has (get_or rows₀ i 0) b || has (get_or rows₀ i 0) k && has y b) C.own
              ∙ (rw (H.bits i h b, H.bits i h k, H.bits k kn b) refl)));
        };
      }
    where
      stays : length (rows ++ drop n rows₀) ≡ length rows₀
      stays = let m = C.long in let w = C.whole in let f = C.fits in omega (arith, length-append rows (drop n rows₀), length-drop n rows₀)

-- The rounds so far.
pub record ClosureRounds (n : ℕ) (rows₀ : List ℕ) (k : ℕ) (rows : List ℕ) : Type 0 where
  pub long : length rows ≡ 64
  pub closes : (R : Relation) → Holds n R rows₀ → Holds n (closure R k) rows

module _ (n : ℕ) (rows₀ : List ℕ) where
  pub rounds_start : length rows₀ ≡ 64 → ClosureRounds n rows₀ 0 rows₀
  unfolding closure
  rounds_start l = record { long = l; closes = λ R H. H }

  pub rounds_turn : (k : ℕ) (rows new : List ℕ) → ClosureRounds n rows₀ k rows → ClosedBy k n rows new → ClosureRounds n rows₀ (k + 1) new
  unfolding closure
  rounds_turn k rows new H C = rw (add-one k) record { long = C.long ∙ H.long; closes = λ R h. C.closes (closure R k) (H.closes R h) }

  pub rounds_end : (k : ℕ) (rows : List ℕ) → ClosureRounds n rows₀ k rows → k ≤ n → n ≤ k → ClosedTable n rows₀ rows
  rounds_end k rows H l m = record { closes = λ R h. subst (λ j. Holds n (closure R j) rows) (omega arith) (H.closes R h) }
