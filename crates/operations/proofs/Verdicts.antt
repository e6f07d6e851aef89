-- Laws of verdicts.
use mathlib.Core.Path.{◌≡◌, refl, sym, ap}
use Prim.Native.Nat.{ℕ, zero, suc}
use Rattle.asp.specs.Count.{none, clear, split, verdict}

pub verdict_none : (k : ℕ) → k ≡ 0 → none ≡ verdict k
unfolding verdict
verdict_none k e = sym (ap verdict e)

pub verdict_clear : (k : ℕ) → k ≡ 1 → clear ≡ verdict k
unfolding verdict
verdict_clear k e = sym (ap verdict e)

pub verdict_split : (k : ℕ) → (k ≡ 0 → ⊥) → (k ≡ 1 → ⊥) → split ≡ verdict k
unfolding verdict
verdict_split zero a b = absurd (a refl)
verdict_split (suc zero) a b = absurd (b refl)
verdict_split (suc (suc k)) a b = refl
