-- Tables of numbers: a function of the values at the first k indices, as a list.
use mathlib.Core.List.{List, [], ◌∷◌, ◌++◌, map, map-append}
use mathlib.Core.Path.{◌≡◌, ◌∙◌, ap, ap₂}
use Prim.Native.Nat.{ℕ, ◌+◌, ◌<◌}
use native.Mathlib.Nat.{zero-add}
use native.Mathlib.Omega.{arith}
use lib.ListN.{length, get_or, set}
use lib.Seq.{get_or-set_same, get_or-set_other}
use Rattle.lists.specs.Lists.{range}
use Rattle.lists.proofs.Members.{map_cong, range_out, range_append}

module _ {A : Type 0} (f : ℕ → A) (l : List ℕ) (k x : ℕ) where
  abbrev at_index : List ℕ → ℕ → A
  at_index t j = f (get_or t j 0)

  -- A store at k leaves the first k values.
  pub table_same : map (λ j. f (get_or (set l k x) j 0)) (range 0 k) ≡ map (λ j. f (get_or l j 0)) (range 0 k)
  table_same = map_cong (at_index (set l k x)) (at_index l) (range 0 k) (λ j m. let r = range_out 0 k j m in let h = r.high in ap f (get_or-set_other l k j x 0 (λ e. omega arith)))

  -- One value more.
  pub table_more : k < length l → map (λ j. f (get_or (set l k x) j 0)) (range 0 (k + 1)) ≡ map (λ j. f (get_or l j 0)) (range 0 k) ++ (f x ∷ [])
  unfolding range
  table_more h =
      ap (map (at_index (set l k x))) (range_append 0 k 1)
      ∙ (map-append (at_index (set l k x)) (range 0 k) (range (0 + k) 1)
      ∙ ap₂ ◌++◌ table_same (ap (λ y. f y ∷ []) (ap (λ j. get_or (set l k x) j 0) (zero-add k) ∙ get_or-set_same l k x 0 h)))

-- A list made from the first k numbers, with one element more.
pub range_grown : {A : Type 0} (f g : ℕ → A) (k : ℕ) (x : A) → ((i : ℕ) → i < k → g i ≡ f i) → g k ≡ x → map g (range 0 (k + 1)) ≡ map f (range 0 k) ++ (x ∷ [])
unfolding range
range_grown f g k x same new =
    ap (map g) (range_append 0 k 1)
    ∙ (map-append g (range 0 k) (range (0 + k) 1)
    ∙ ap₂ ◌++◌ (map_cong g f (range 0 k) (λ i m. let h = (range_out 0 k i m).high in same i (omega arith))) (ap (λ y. y ∷ []) (ap g (zero-add k) ∙ new)))
