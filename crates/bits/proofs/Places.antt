-- The place of a number in a list.
use mathlib.Core.List.{List}
use mathlib.Core.Path.{◌≡◌}
use Prim.Native.Nat.{ℕ, ◌≤◌, ◌<◌}
use native.Mathlib.Omega.{arith}
use borrow.Author.Tests.{eqb-true, eqb-false}
use lib.Dec.{eqb}
use lib.ListN.{length, get_or}
use Rattle.std.specs.Prelude.{Some, None, position}
use Rattle.std.specs.List.{position_or_len}
use Rattle.std.proofs.lemmas.Grind.{common_steps}
use Rattle.std.proofs.lemmas.List.Quantifiers.{position-Some}
use Rattle.std.proofs.lemmas.List.Sums.{fails_before_first}

module _ (l : List ℕ) (a : ℕ) where
  pub place_own : (p : ℕ) → position (λ b. eqb b a) l ≡ Some p → (p < length l) × (get_or l p 0 ≡ a)
  place_own p e = let u = position-Some (λ b. eqb b a) l p 0 e in (u.0, eqb-true (get_or l p 0) a u.1)

  pub place_first : (p : ℕ) → position (λ b. eqb b a) l ≡ Some p → (q : ℕ) → q < p → get_or l q 0 ≡ a → ⊥
  place_first p e q h = let u = position-Some (λ b. eqb b a) l p 0 e in eqb-false (get_or l q 0) a (u.2 q h)

  pub place_none : position (λ b. eqb b a) l ≡ None → (q : ℕ) → q < length l → get_or l q 0 ≡ a → ⊥
  place_none e q h =
      let far : length l ≤ position_or_len (λ b. eqb b a) l = grind (arith, common_steps) in
      eqb-false (get_or l q 0) a (fails_before_first (λ b. eqb b a) l q 0 (omega arith))
