-- Laws of rows in one list of numbers, for any `row` that reads one.
use mathlib.Core.List.Memᴰ
use mathlib.Core.List.{List, [], ◌∷◌, ◌++◌, map, Memᴰ}
use mathlib.Core.Path.{◌≡◌, ◌∙◌, ap}
use Prim.Native.Nat.{ℕ, ◌+◌, ◌-◌, ◌≤◌, ◌<◌}
use native.Mathlib.Omega.{arith}
use borrow.Author.Tests.{eqb-true, eqb-false}
use lib.Dec.{eqb}
use lib.ListN.{length, length-map}
use Rattle.lists.specs.Lists.{range}
use Rattle.lists.specs.Rows.{Stored}
use Rattle.lists.proofs.Bools.{by_bool}
use Rattle.lists.proofs.Members.{range_in, range_left, range_over}
use Rattle.lists.proofs.Nodup.{length_range}
use Rattle.lists.proofs.Tables.{range_grown}

module _ {R : Type 0} (row : List ℕ → ℕ → R) where
  module _ (t : List ℕ) (j : ℕ) (r : R) (u : List ℕ) (S : Stored row t j r u) where
    -- One row more behind the first j.
    pub rows_more : {A : Type 0} (f : R → A) → map (λ i. f (row u i)) (range 0 (j + 1)) ≡ map (λ i. f (row t i)) (range 0 j) ++ (f r ∷ [])
    rows_more f = range_grown (λ i. f (row t i)) (λ i. f (row u i)) j (f r) (λ i l. ap f (S.old i (λ e. omega arith))) (ap f S.new)

    -- A property of one row more: k is j + 1 where rows are filled in order, or the number of all rows.
    pub all_more : (P : R → Type 0) (k : ℕ) → ((i : ℕ) → i < k → (i ≡ j → ⊥) → P (row t i)) → P r → (i : ℕ) → i < k → P (row u i)
    all_more P k before here i l =
        by_bool (eqb i j) (λ e. rw (eqb-true i j e, S.new) here) (λ f. let ne = eqb-false i j f in rw (S.old i ne) (before i l ne))

  -- The rows from j on.
  module _ {A : Type 0} (f : R → A) (t : List ℕ) (m j : ℕ) where
    pub rows_left : j < m → map (λ i. f (row t i)) (range j (m - j)) ≡ f (row t j) ∷ map (λ i. f (row t i)) (range (j + 1) (m - (j + 1)))
    rows_left l = ap (map (λ i. f (row t i))) (range_left j m l)

    pub rows_over : m ≤ j → map (λ i. f (row t i)) (range j (m - j)) ≡ []
    rows_over l = ap (map (λ i. f (row t i))) (range_over j m l)

    pub rows_length : length (map (λ i. f (row t i)) (range j m)) ≡ m
    rows_length = length-map (range j m) (λ i. f (row t i)) ∙ length_range j m

    pub row_member : j < m → Memᴰ (f (row t j)) (map (λ i. f (row t i)) (range 0 m))
    row_member l = Memᴰ.map (λ i. f (row t i)) (range_in 0 m j (omega arith) (omega arith))
