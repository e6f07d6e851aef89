-- A list that rises strictly is the list of its set.
use mathlib.Core.Bool.{Bool, true, false, ◌&&◌, ◌||◌}
use mathlib.Core.List.{List, [], ◌∷◌}
use mathlib.Core.Path.{◌≡◌, refl, sym, ◌∙◌, ap, subst}
use Prim.Native.Nat.{ℕ, zero, suc, ◌+◌, ◌≤◌, ◌<◌}
use native.Mathlib.Omega.{arith}
use borrow.Author.Tests.{eqb-true, eqb-false, ne_eqb, ltb-true, leb-true, le-leb}
use lib.Dec.{eqb, ltb, leb}
use Rattle.lists.specs.Lists.{any, filter, range, member}
use Rattle.lists.proofs.Bools.{by_bool, true_false, and_intro, and_left, and_right, is_false}
use Rattle.lists.proofs.Members.{filter_none, filter_cong, filter_range, range_out}
use Rattle.bits.specs.inner.Sets.{has, Gathered}
use Rattle.bits.specs.inner.Visited.{listed}

-- The test of a list, element by element: each is at least the low end, which then is one above it, and below n.
unfoldable pub climb : ℕ → ℕ → List ℕ → Bool
climb low n [] = true
climb low n (x ∷ l) = leb low x && (ltb x n && climb (suc x) n l)

pub climb_cons : (low n x : ℕ) (l : List ℕ) → climb low n (x ∷ l) ≡ true → (low ≤ x) × (x < n) × (climb (suc x) n l ≡ true)
unfolding climb
climb_cons low n x l e =
    let r = and_right (leb low x) (ltb x n && climb (suc x) n l) e in
    (leb-true low x (and_left (leb low x) (ltb x n && climb (suc x) n l) e), ltb-true x n (and_left (ltb x n) (climb (suc x) n l) r), and_right (ltb x n) (climb (suc x) n l) r)

-- Its members are at least the low end and below n.
climb_member : (low n b : ℕ) (l : List ℕ) → climb low n l ≡ true → member b l ≡ true → (low ≤ b) × (b < n)
unfolding member any
climb_member low n b [] e m = absurd (true_false m refl)
climb_member low n b (x ∷ l) e m =
    let c = climb_cons low n x l e in
    by_bool (eqb b x)
    (λ t. let u = eqb-true b x t in (omega (arith, c.0), omega (arith, c.1)))
    (λ f. let r = climb_member (suc x) n b l c.2 (rw f at m) in (omega (arith, c.0, r.0), r.1))

climb_higher : (low n x : ℕ) (l : List ℕ) → climb low n (x ∷ l) ≡ true → (low ≡ x → ⊥) → climb (suc low) n (x ∷ l) ≡ true
unfolding climb
climb_higher low n x l e ne = let c = climb_cons low n x l e in and_intro (le-leb (suc low) x (let h = c.0 in omega arith)) (and_right (leb low x) (ltb x n && climb (suc x) n l) e)

rising_filter : (k low : ℕ) (l : List ℕ) → climb low (low + k) l ≡ true → filter (λ b. member b l) (range low k) ≡ l
unfolding filter range member any
rising_filter k low [] e = filter_none (λ b. member b []) (range low k) (λ b _. refl)
rising_filter zero low (x ∷ l) e = let c = climb_cons low (low + 0) x l e in absurd (omega (arith, c.0, c.1))
rising_filter (suc k) low (x ∷ l) e =
    let c = climb_cons low (low + suc k) x l e in
    by_bool (eqb low x)
    (λ t.
    let u = eqb-true low x t in
    let rest = rising_filter k (suc low) l (subst (λ n. climb (suc low) n l ≡ true) (omega arith) (subst (λ y. climb (suc y) (low + suc k) l ≡ true) (sym u) c.2)) in
    rw t (ap (λ y. y ∷ filter (λ b. eqb b x || member b l) (range (suc low) k)) u
    ∙ ap (λ m. x ∷ m) (filter_cong (λ b. eqb b x || member b l) (λ b. member b l) (range (suc low) k)
    (λ b m. rw (ne_eqb b x (λ v. let r = (range_out (suc low) k b m).low in omega arith)) refl) ∙ rest)))
    (λ f.
    let u = eqb-false low x f in
    let none : member low l ≡ false = is_false (λ m. omega (arith, (climb_member (suc x) (low + suc k) low l c.2 m).0, c.0)) in
    rw (f, none) (rising_filter k (suc low) (x ∷ l) (subst (λ n. climb (suc low) n (x ∷ l) ≡ true) (omega arith) (climb_higher low (low + suc k) x l e u))))

-- With the members of a rising list below 64, a set's list is that list.
pub listed_gathered : (n x : ℕ) (l : List ℕ) → n ≤ 64 → climb 0 n l ≡ true → Gathered l x → listed x ≡ l
unfolding listed
listed_gathered n x l h e G =
    filter_cong (has x) (λ b. member b l) (range 0 64) (λ b _. G.members b)
    ∙ (filter_range (λ b. member b l) n 64 h (λ b m. (climb_member 0 n b l e m).1)
    ∙ rising_filter n 0 l (subst (λ k. climb 0 k l ≡ true) (omega arith) e))
