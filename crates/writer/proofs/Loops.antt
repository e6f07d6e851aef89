-- Loops that write the elements of each atom of a set, lowest first, of each number of a range, or of each number of a list.
use mathlib.Core.List.{List, [], ◌∷◌, ◌++◌, map, flat_map}
use mathlib.Core.Path.{◌≡◌, refl, sym, ◌∙◌, ap}
use Prim.Native.Nat.{ℕ, ◌+◌, ◌-◌, ◌≤◌, ◌<◌}
use native.Mathlib.Omega.{arith}
use lib.Bits.{bit_and}
use native.Mathlib.Numerals.{add-one}
use lib.ListN.{length, get_or, drop, drop_of_length-le}
use lib.Seq.{drop-cons}
use Rattle.lists.specs.Lists.{range}
use Rattle.lists.proofs.Members.{flat_map_append, range_left, range_over}
use Rattle.bits.specs.inner.Visited.{listed, Lowest, Rest, Run, WithoutRun}
use Rattle.bits.proofs.Visiting.{listed_lowest, listed_none, rest_is}
use Rattle.bits.proofs.Runs.{listed_run}
use Rattle.writer.specs.inner.Wrote.{Wrote}
use Rattle.writer.proofs.Writing.{Left, left_start, left_turn, left_length, left_room, left_end}

-- One element for each number.
pub flat_map_one : {A B : Type 0} (g : A → B) (l : List A) → flat_map (λ b. g b ∷ []) l ≡ map g l
unfolding flat_map
flat_map_one g [] = refl
flat_map_one g (b ∷ l) = ap (λ bs. g b ∷ bs) (flat_map_one g l)

pub flat_map_map : {A B C : Type 0} (f : B → List C) (g : A → B) (l : List A) → flat_map f (map g l) ≡ flat_map (λ x. f (g x)) l
unfolding flat_map
flat_map_map f g [] = refl
flat_map_map f g (x ∷ l) = ap (λ cs. f (g x) ++ cs) (flat_map_map f g l)

-- The elements of a set's atoms.
module _ {A : Type 0} (f : ℕ → List A) where
  abbrev pub set_words : ℕ → List A
  set_words x = flat_map f (listed x)

  -- The loop over a set x, of which the atoms `left` are still to be visited.
  pub record SetLeft (old : List A) (at x : ℕ) (cur : List A) (next left : ℕ) : Type 0 where
    pub rest : Left old at (set_words x) cur next (set_words left)

  -- The loop over the numbers from .. to - 1, of which those from j on are left.
  pub record RangeLeft (old : List A) (at from to : ℕ) (cur : List A) (next j : ℕ) : Type 0 where
    pub rest : Left old at (flat_map f (range from (to - from))) cur next (flat_map f (range j (to - j)))

  -- The loop over the numbers of a list, of which those from index j on are left.
  pub record ItemsLeft (old : List A) (at : ℕ) (l : List ℕ) (cur : List A) (next j : ℕ) : Type 0 where
    pub rest : Left old at (flat_map f l) cur next (flat_map f (drop j l))

module _ {A : Type 0} (f : ℕ → List A) (old : List A) (at x : ℕ) where
  pub set_start : SetLeft f old at x old at x
  set_start = record { rest = left_start old at (set_words f x) (set_words f x) refl }

  module _ (cur : List A) (next left : ℕ) (S : SetLeft f old at x cur next left) where
    module _ (a r : ℕ) (L : Lowest left a) (R : Rest left r) where
      step : set_words f left ≡ f a ++ set_words f r
      unfolding flat_map
      step = ap (flat_map f) (listed_lowest left a L r R)

      pub set_turn : (new : List A) (behind : ℕ) → Wrote cur next (f a) new behind → SetLeft f old at x new behind r
      set_turn new behind W = record { rest = left_turn old at (set_words f x) cur new (f a) _ _ next behind S.rest step W }

    -- A run of atoms from the lowest on is visited at once.
    module _ (a k r : ℕ) (L : Lowest left a) (R : Run left a k) (W : WithoutRun left a k r) where
      run_step : set_words f left ≡ flat_map f (range a k) ++ set_words f r
      run_step = ap (flat_map f) (listed_run left a k r L R W) ∙ flat_map_append f (range a k) (listed r)

      pub set_run_turn : (new : List A) (behind : ℕ) → Wrote cur next (flat_map f (range a k)) new behind → SetLeft f old at x new behind r
      set_run_turn new behind W = record { rest = left_turn old at (set_words f x) cur new (flat_map f (range a k)) _ _ next behind S.rest run_step W }

      pub set_run_room : at + length (set_words f x) ≤ length old → next + length (flat_map f (range a k)) ≤ length cur
      set_run_room h = left_room old at (set_words f x) cur (flat_map f (range a k)) _ _ next S.rest run_step h

    pub set_room : (a : ℕ) → 0 < left → Lowest left a → at + length (set_words f x) ≤ length old → next + length (f a) ≤ length cur
    set_room a p L h =
        let r = bit_and left (left - 1) in
        left_room old at (set_words f x) cur (f a) _ (set_words f r) next S.rest (step a r L (rest_is left p)) h

    pub set_length : length cur ≡ length old
    set_length = left_length old at (set_words f x) cur _ next S.rest

    pub set_end : left ≤ 0 → Wrote old at (set_words f x) cur next
    unfolding flat_map
    set_end h = left_end old at (set_words f x) cur _ next S.rest (ap (set_words f) (let e : left ≡ 0 = omega arith in e) ∙ ap (flat_map f) listed_none)

module _ {A : Type 0} (f : ℕ → List A) (old : List A) (at from to : ℕ) where
  abbrev range_words : List A
  range_words = flat_map f (range from (to - from))

  pub range_start : RangeLeft f old at from to old at from
  range_start = record { rest = left_start old at range_words range_words refl }

  module _ (cur : List A) (next j : ℕ) (L : RangeLeft f old at from to cur next j) where
    module _ (lt : j < to) where
      range_step : flat_map f (range j (to - j)) ≡ f j ++ flat_map f (range (j + 1) (to - (j + 1)))
      unfolding flat_map
      range_step = ap (flat_map f) (range_left j to lt)

      pub range_turn : (new : List A) (behind : ℕ) → Wrote cur next (f j) new behind → RangeLeft f old at from to new behind (j + 1)
      range_turn new behind W = record { rest = left_turn old at range_words cur new (f j) _ _ next behind L.rest range_step W }

      pub range_room : at + length range_words ≤ length old → next + length (f j) ≤ length cur
      range_room h = left_room old at range_words cur (f j) _ _ next L.rest range_step h

    pub range_length : length cur ≡ length old
    range_length = left_length old at range_words cur _ next L.rest

    pub range_end : to ≤ j → Wrote old at range_words cur next
    unfolding flat_map
    range_end l = left_end old at range_words cur _ next L.rest (ap (flat_map f) (range_over j to l))

module _ {A : Type 0} (f : ℕ → List A) (old : List A) (at : ℕ) (l : List ℕ) where
  pub items_start : ItemsLeft f old at l old at 0
  items_start = record { rest = left_start old at (flat_map f l) _ refl }

  module _ (cur : List A) (next j : ℕ) (L : ItemsLeft f old at l cur next j) where
    module _ (lt : j < length l) where
      item_step : flat_map f (drop j l) ≡ f (get_or l j 0) ++ flat_map f (drop (j + 1) l)
      unfolding flat_map
      item_step = ap (flat_map f) (drop-cons l j 0 lt ∙ ap (λ k. get_or l j 0 ∷ drop k l) (sym (add-one j)))

      pub items_turn : (new : List A) (behind : ℕ) → Wrote cur next (f (get_or l j 0)) new behind → ItemsLeft f old at l new behind (j + 1)
      items_turn new behind W = record { rest = left_turn old at (flat_map f l) cur new (f (get_or l j 0)) _ _ next behind L.rest item_step W }

      pub items_room : at + length (flat_map f l) ≤ length old → next + length (f (get_or l j 0)) ≤ length cur
      items_room h = left_room old at (flat_map f l) cur (f (get_or l j 0)) _ _ next L.rest item_step h

    pub items_length : length cur ≡ length old
    items_length = left_length old at (flat_map f l) cur _ next L.rest

    pub items_end : length l ≤ j → Wrote old at (flat_map f l) cur next
    unfolding flat_map
    items_end h = left_end old at (flat_map f l) cur _ next L.rest (ap (flat_map f) (drop_of_length-le l h))
