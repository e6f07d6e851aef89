-- Laws of places: the set of places that an atom has edges to, an atom's own place, and the atoms of a component.
use mathlib.Core.Bool.{Bool}
use mathlib.Core.List.{List}
use mathlib.Core.Path.{◌≡◌, ◌∙◌, ap}
use Prim.Native.Nat.{ℕ, ◌+◌, ◌-◌, ◌*◌, ◌%◌, ◌^◌, ◌≤◌, ◌<◌}
use native.Mathlib.Nat.{one-mul}
use native.Mathlib.Omega.{arith}
use lib.Dec.{ltb}
use lib.ListN.{length, get_or}
use lib.Pow.{pow_mono, pow_pos, shl_exact}
use Rattle.bits.specs.inner.Sets.{has, WithIf}
use Rattle.bits.proofs.Digits.{full_has}
use Rattle.bits.proofs.Picking.{Picking, picking_start, picking_turn}
use Rattle.chain_rows.specs.inner.Subsets.{Followers, Power}

-- The places that x has edges to.
abbrev pub Following : List ℕ → List ℕ → ℕ → ℕ → ℕ → Type 0
Following rows atoms x = Picking (λ q. has (get_or rows (get_or atoms q 0) 0) x)

module _ (rows atoms : List ℕ) (x : ℕ) where
  pub following_start : Following rows atoms x 0 0
  following_start = picking_start (λ q. has (get_or rows (get_or atoms q 0) 0) x)

  pub following_turn : (p set a new : ℕ) (b : Bool) → Following rows atoms x p set → a ≡ get_or atoms p 0 → b ≡ has (get_or rows a 0) x → WithIf set p b new → Following rows atoms x (p + 1) new
  following_turn p set a new b F e f = picking_turn (λ q. has (get_or rows (get_or atoms q 0) 0) x) p set new b F (f ∙ ap (λ n. has (get_or rows n 0) x) e)

  pub following_end : (set : ℕ) → Following rows atoms x (length atoms) set → Followers rows atoms (length atoms) x set
  following_end set F = record { members = F.members }

-- The set of all k places.
module _ (k size : ℕ) (N : Power k size) where
  pub full_places : (p : ℕ) → has (size - 1) p ≡ ltb p k
  full_places p = ap (λ n. has (n - 1) p) N.is ∙ full_has k p

  pub full_small : size - 1 < 2 ^ k
  full_small = let e = N.is in let h = pow_pos k in omega arith

pub power_is : (k : ℕ) → k ≤ 10 → Power k (1 * 2 ^ k % 2 ^ 64)
power_is k l =
    let few = pow_mono {i = k} {j = 10} l in
    let e : 1 * 2 ^ k % 2 ^ 64 ≡ 2 ^ k = shl_exact {a = 1} 1 k 64 (omega arith) (omega arith) ∙ one-mul (2 ^ k) in
    let one = pow_pos k in
    record { is = e; some = omega arith; small = omega arith }
