-- The loop that gathers a list into a set: what is left of the list and what is in the set are the list's members.
use mathlib.Core.Bool.{Bool, true, ◌||◌, or-false, or_assoc, or_comm}
use mathlib.Core.List.{List, ◌∷◌}
use mathlib.Core.Path.{◌≡◌, sym, ◌∙◌, ap, subst}
use Prim.Native.Nat.{ℕ, suc, ◌+◌, ◌<◌, ◌≤◌}
use native.Mathlib.Numerals.{add-one}
use borrow.Author.Tests.{ltb-true}
use lib.Dec.{eqb, ltb}
use lib.ListN.{length, get_or, drop, drop_of_length-le}
use lib.Seq.{drop-cons}
use Rattle.lists.specs.Lists.{all, any, below, member}
use Rattle.lists.proofs.Bools.{and_left, and_right}
use Rattle.bits.specs.inner.Sets.{has, With, Gathered}
use Rattle.bits.proofs.Digits.{zero_has}

pub record Gathering (l : List ℕ) (i x : ℕ) : Type 0 where
  pub left : below 64 (drop i l) ≡ true
  pub members : (b : ℕ) → (member b (drop i l) || has x b) ≡ member b l

pub gathering_start : (l : List ℕ) → below 64 l ≡ true → Gathering l 0 0
gathering_start l h = record { left = h; members = λ b. ap (λ (y : Bool). member b l || y) (zero_has b) ∙ or-false (member b l) }

next : (l : List ℕ) (i : ℕ) → i < length l → drop i l ≡ get_or l i 0 ∷ drop (suc i) l
next l i h = drop-cons l i 0 h

pub gathering_low : (l : List ℕ) (i x b : ℕ) → Gathering l i x → i < length l → b ≡ get_or l i 0 → b < 64
unfolding below all
gathering_low l i x b G h is =
    let t : below 64 (get_or l i 0 ∷ drop (suc i) l) ≡ true = rw (next l i h) at G.left in
    subst (λ n. n < 64) (sym is) (ltb-true (get_or l i 0) 64 (and_left (ltb (get_or l i 0) 64) (below 64 (drop (suc i) l)) t))

pub gathering_turn : (l : List ℕ) (i x b r : ℕ) → Gathering l i x → i < length l → b ≡ get_or l i 0 → With x b r → Gathering l (i + 1) r
unfolding below all member any
gathering_turn l i x b r G h is W =
    rw add-one
    record {
      left = and_right (ltb (get_or l i 0) 64) (below 64 (drop (suc i) l)) (rw (next l i h) at G.left);
      members = λ a.
          let rest = member a (drop (suc i) l) in
          let here = eqb a (get_or l i 0) in
          ap (λ (y : Bool). rest || y) (W.members a ∙ ap (λ n. eqb a n || has x a) is)
          ∙ (sym (or_assoc rest here (has x a)) ∙ (ap (λ (y : Bool). y || has x a) (or_comm rest here) ∙ (rw (next l i h) at (G.members a))));
    }

pub gathering_end : (l : List ℕ) (i x : ℕ) → Gathering l i x → length l ≤ i → Gathered l x
unfolding member any
gathering_end l i x G h = record { members = λ b. rw (drop_of_length-le l h) at (G.members b) }
