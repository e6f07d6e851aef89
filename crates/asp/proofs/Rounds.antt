-- Rounds of a monotone operator on the sets of n atoms: after n of them nothing is added, and what they give is the least closed set.
use mathlib.Core.Bool.{Bool, true, false, not, ◌||◌, false≢true}
use mathlib.Core.Logic.{◌⊎◌, inl, inr, ⊎_elim}
use mathlib.Core.Path.{◌≡◌}
use Prim.Native.Nat.{ℕ, zero, suc, ◌≤◌, ◌<◌}
use native.Mathlib.Omega.{arith}
use lib.ListN.{length}
use Rattle.lists.specs.Lists.{all, filter, range}
use Rattle.lists.proofs.Bools.{by_bool, true_false, is_true, is_false, or_cases, or_left, or_right, not_elim, not_intro}
use Rattle.lists.proofs.Members.{all_at, all_fails, filter_out, range_in, range_out}
use Rattle.lists.proofs.Nodup.{nodup_le, nodup_filter, filter_lt, nodup_range, length_range}
use Rattle.asp.specs.Program.{State}
use Rattle.asp.specs.LeastModel.{iterate, Inside}
use Rattle.asp.specs.Least.{Closed, Least}

-- A monotone operator that gives atoms below n only.
pub record Operator (n : ℕ) (f : State → State) : Type 0 where
  pub mono : (X Y : State) → Inside X Y → Inside (f X) (f Y)
  pub bounded : (X : State) (a : ℕ) → f X a ≡ true → a < n

-- The number of atoms below n in X.
size : ℕ → State → ℕ
size n X = length (filter X (range 0 n))

size_le : (n : ℕ) (X : State) → size n X ≤ n
unfolding size
size_le n X =
    let le = nodup_le (filter X (range 0 n)) (range 0 n) (nodup_filter X (range 0 n) (nodup_range 0 n)) (λ x m. (filter_out X (range 0 n) x m).0) in
    omega (arith, le, length_range 0 n)

size_lt : (n : ℕ) (X Y : State) → Inside X Y → (a : ℕ) → a < n → X a ≡ false → Y a ≡ true → size n X < size n Y
unfolding size
size_lt n X Y h a lt f t = filter_lt X Y (range 0 n) (nodup_range 0 n) (λ x _ e. h x e) a (range_in 0 n a (omega arith) (omega arith)) f t

module _ (n : ℕ) (f : State → State) (F : Operator n f) where
  pub iterate_up : (k : ℕ) → Inside (iterate f k) (iterate f (suc k))
  unfolding iterate
  iterate_up zero a e = absurd (false≢true e)
  iterate_up (suc k) a e = F.mono (iterate f k) (iterate f (suc k)) (iterate_up k) a e

  iterate_inside : (Y : State) → Closed f Y → (k : ℕ) → Inside (iterate f k) Y
  unfolding iterate
  iterate_inside Y c zero a e = absurd (false≢true e)
  iterate_inside Y c (suc k) a e = c a (F.mono (iterate f k) Y (iterate_inside Y c k) a e)

  pub iterate_below : (k a : ℕ) → iterate f k a ≡ true → a < n
  unfolding iterate
  iterate_below zero a e = absurd (false≢true e)
  iterate_below (suc k) a e = F.bounded (iterate f k) a e

  -- Once closed, closed for ever.
  still : (k : ℕ) → Closed f (iterate f k) → Closed f (iterate f (suc k))
  unfolding iterate
  still k c a e = F.mono (iterate f (suc k)) (iterate f k) c a e

  -- A round adds an atom, or nothing is left to add.
  step : (k : ℕ) → Closed f (iterate f k) ⊎ (size n (iterate f k) < size n (iterate f (suc k)))
  unfolding iterate
  step k = by_bool (all kept (range 0 n)) (λ t. inl (closed t)) (λ e. inr (grown e))
    where
      kept : ℕ → Bool
      kept a = not (iterate f (suc k) a) || iterate f k a

      closed : all kept (range 0 n) ≡ true → Closed f (iterate f k)
      closed t a e =
          let lt = F.bounded (iterate f k) a e in
          ⊎_elim (λ p. absurd (true_false e (not_elim p))) (λ p. p)
          (or_cases (not (f (iterate f k) a)) (iterate f k a) (all_at kept (range 0 n) t a (range_in 0 n a (omega arith) (omega arith))))

      grown : all kept (range 0 n) ≡ false → size n (iterate f k) < size n (iterate f (suc k))
      grown e =
          let w = all_fails kept (range 0 n) e in
          let r = range_out 0 n w.0 w.1 in
          size_lt n (iterate f k) (iterate f (suc k)) (iterate_up k) w.0 (omega (arith, r.high))
          (is_false (λ t. true_false (or_right (not (iterate f (suc k) w.0)) t) w.2))
          (is_true (λ x. true_false (or_left (iterate f k w.0) (not_intro x)) w.2))

  progress : (k : ℕ) → Closed f (iterate f k) ⊎ (k < size n (iterate f (suc k)))
  progress zero = ⊎_elim (λ c. inl c) (λ l. inr (omega arith)) (step zero)
  progress (suc k) =
      ⊎_elim (λ c. inl (still k c)) (λ l. ⊎_elim (λ c. inl c) (λ m. inr (omega arith)) (step (suc k))) (progress k)

  pub iterate_least : Least f (iterate f n)
  iterate_least = record { closed = ⊎_elim (λ c. c) (λ l. absurd (let le = size_le n (iterate f (suc n)) in omega arith)) (progress n); least = λ Y c. iterate_inside Y c n }
