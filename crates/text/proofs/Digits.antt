-- Numbers in decimal.
use mathlib.Core.List.{List, [], ◌∷◌, ◌++◌, append_assoc}
use mathlib.Core.Path.{◌≡◌, refl, sym, ◌∙◌, ap, subst}
use Prim.Native.Nat.{ℕ, zero, suc, ◌+◌, ◌*◌, ◌/◌, ◌%◌, ◌^◌, ◌≤◌, ◌<◌}
use native.Mathlib.Nat.{add-zero, div-lt_iff_lt-mul, div-div-eq-div-mul, mod-eq_of_lt, mul-div-le, mul-le-mul_left}
use native.Mathlib.Omega.{arith}
use borrow.Author.Tests.{lt-ltb, le-ltb, ltb-true, ltb-false}
use lib.Dec.{ltb}
use lib.ListN.{length, length-append}
use mir.Syntax.{w64}
use mir.Val.{Fits}
use Rattle.lists.proofs.Bools.{by_bool}
use Rattle.writer.specs.inner.Wrote.{Wrote}
use Rattle.writer.proofs.Writing.{wrote_append, wrote_length}
use Rattle.text.specs.Text.{digit, digits, decimal}
use Rattle.text.specs.inner.Digits.{digit_at, upper_digits, SmallLength}

-- One digit less is asked for.
less : (n : ℕ) → 10 ≤ n → n / 10 < n
less n l = omega arith

-- With room for more digits than n there are the same digits.
enough : (k j n : ℕ) → n < k → n < j → digits k n ≡ digits j n
unfolding digits
enough zero j n h i = absurd (omega arith)
enough (suc k) zero n h i = absurd (omega arith)
enough (suc k) (suc j) n h i =
    by_bool (ltb n 10) (λ t. rw t refl)
    (λ f. let l = ltb-false n 10 f in let s = less n l in rw f (ap (λ ds. ds ++ (digit (n % 10) ∷ [])) (enough k j (n / 10) (omega arith) (omega arith))))

module _ (n : ℕ) where
  decimal_one : n < 10 → decimal n ≡ digit n ∷ []
  unfolding decimal digits
  decimal_one l = rw (lt-ltb n 10 l) refl

  decimal_more : 10 ≤ n → decimal n ≡ decimal (n / 10) ++ (digit (n % 10) ∷ [])
  unfolding decimal digits
  decimal_more l =
      rw (le-ltb n 10 l) (ap (λ ds. ds ++ (digit (n % 10) ∷ [])) (enough n (suc (n / 10)) (n / 10) (less n l) (omega arith)))

  -- There is a digit more than n / 10 has.
  decimal_longer : 10 ≤ n → length (decimal n) ≡ length (decimal (n / 10)) + 1
  decimal_longer l = ap length (decimal_more l) ∙ length-append (decimal (n / 10)) (digit (n % 10) ∷ [])

-- The digits from a unit on upwards are those from the next one on, and the unit's own.
module _ (n : ℕ) where
  upper_more : (unit : ℕ) → 1 ≤ unit → upper_digits unit n ≡ upper_digits (unit * 10) n ++ digit_at unit n
  unfolding upper_digits digit_at
  upper_more unit p =
      by_bool (ltb n unit) (λ t. let l = ltb-true n unit t in rw (t, lt-ltb n (unit * 10) (omega arith)) refl)
      (λ f. by_bool (ltb (n / unit) 10)
      (λ t. let l = ltb-true (n / unit) 10 t in let h = (div-lt_iff_lt-mul p).0 l in
      rw (f, lt-ltb n (unit * 10) (omega arith), decimal_one (n / unit) l, mod-eq_of_lt l) refl)
      (λ g. let l = ltb-false (n / unit) 10 g in
      rw (f, le-ltb n (unit * 10) (below_div l), decimal_more (n / unit) l, div-div-eq-div-mul n unit 10) refl))
    where
      below_div : 10 ≤ n / unit → unit * 10 ≤ n
      below_div l = let h = mul-div-le n unit in let k = mul-le-mul_left unit l in omega arith

  decimal_upper : decimal n ≡ upper_digits 10 n ++ (digit (n % 10) ∷ [])
  unfolding upper_digits
  decimal_upper =
      by_bool (ltb n 10) (λ t. let l = ltb-true n 10 t in rw (t, decimal_one n l, mod-eq_of_lt l) refl)
      (λ f. rw (f, decimal_more n (ltb-false n 10 f)) refl)

  -- The digits above the last four, then these one by one.
  decimal_digits : decimal n ≡ upper_digits 10000 n ++ digit_at 1000 n ++ digit_at 100 n ++ digit_at 10 n ++ (digit (n % 10) ∷ [])
  decimal_digits =
      decimal_upper
      ∙ ap (λ ds. ds ++ (digit (n % 10) ∷ [])) (upper_more 10 (omega arith)
      ∙ ap (λ ds. ds ++ digit_at 10 n) (upper_more 100 (omega arith) ∙ ap (λ ds. ds ++ digit_at 100 n) (upper_more 1000 (omega arith))))

  digits_length : length (decimal n) ≡ length (upper_digits 10000 n) + length (digit_at 1000 n) + length (digit_at 100 n) + length (digit_at 10 n) + 1
  digits_length =
      let a = length-append (upper_digits 10000 n) (digit_at 1000 n) in
      let b = length-append (upper_digits 10000 n ++ digit_at 1000 n) (digit_at 100 n) in
      let c = length-append (upper_digits 10000 n ++ digit_at 1000 n ++ digit_at 100 n) (digit_at 10 n) in
      let d = length-append (upper_digits 10000 n ++ digit_at 1000 n ++ digit_at 100 n ++ digit_at 10 n) (digit (n % 10) ∷ []) in
      ap length decimal_digits ∙ omega arith

  decimal_some : 1 ≤ length (decimal n)
  decimal_some = omega (arith, digits_length)

  -- Each of them has room where the number has.
  pub upper_room : (at size : ℕ) → at + length (decimal n) ≤ size → at + length (upper_digits 10000 n) ≤ size
  upper_room at size room = omega (arith, digits_length)

  module _ (old : List ℕ) (at : ℕ) (room : at + length (decimal n) ≤ length old) where
    module _ (one : List ℕ) (a : ℕ) (A : Wrote old at (upper_digits 10000 n) one a) where
      pub room_1000 : a + length (digit_at 1000 n) ≤ length one
      room_1000 = omega (arith, digits_length, A.moved, wrote_length _ _ _ _ _ A)

      module _ (two : List ℕ) (b : ℕ) (B : Wrote one a (digit_at 1000 n) two b) where
        pub room_100 : b + length (digit_at 100 n) ≤ length two
        room_100 = omega (arith, digits_length, A.moved, B.moved, wrote_length _ _ _ _ _ A, wrote_length _ _ _ _ _ B)

        module _ (three : List ℕ) (c : ℕ) (C : Wrote two b (digit_at 100 n) three c) where
          pub room_10 : c + length (digit_at 10 n) ≤ length three
          room_10 = omega (arith, digits_length, A.moved, B.moved, C.moved, wrote_length _ _ _ _ _ A, wrote_length _ _ _ _ _ B, wrote_length _ _ _ _ _ C)

          pub room_1 : (four : List ℕ) (d : ℕ) → Wrote three c (digit_at 10 n) four d → d < length four
          room_1 four d D =
              omega (arith, digits_length, A.moved, B.moved, C.moved, D.moved, wrote_length _ _ _ _ _ A, wrote_length _ _ _ _ _ B, wrote_length _ _ _ _ _ C, wrote_length _ _ _ _ _ D)

  pub wrote_digits : (old one two three four new : List ℕ) (at a b c d next : ℕ) → Wrote old at (upper_digits 10000 n) one a
      → Wrote one a (digit_at 1000 n) two b → Wrote two b (digit_at 100 n) three c → Wrote three c (digit_at 10 n) four d
      → Wrote four d (digit (n % 10) ∷ []) new next → Wrote old at (decimal n) new next
  wrote_digits old one two three four new at a b c d next A B C D E =
      subst (λ ds. Wrote old at ds new next) (sym decimal_digits)
      (wrote_append old four new _ (digit (n % 10) ∷ []) at d next
      (wrote_append old three four _ (digit_at 10 n) at c d
      (wrote_append old two three _ (digit_at 100 n) at b c (wrote_append old one two _ (digit_at 1000 n) at a b A B) C) D) E)

  -- The digits above the last four.
  pub wrote_none : (old : List ℕ) (at : ℕ) → n < 10000 → Wrote old at (upper_digits 10000 n) old at
  unfolding upper_digits
  wrote_none old at l = rw (lt-ltb n 10000 l) (record { stored = refl; moved = sym (add-zero at) })

  upper_is : 10000 ≤ n → upper_digits 10000 n ≡ decimal (n / 10000)
  unfolding upper_digits
  upper_is l = rw (le-ltb n 10000 l) refl

  pub wrote_upper : (old new : List ℕ) (at next : ℕ) → 10000 ≤ n → Wrote old at (decimal (n / 10000)) new next → Wrote old at (upper_digits 10000 n) new next
  wrote_upper old new at next l W = rw (upper_is l) W

  pub upper_enough : (at size : ℕ) → 10000 ≤ n → at + length (upper_digits 10000 n) ≤ size → at + length (decimal (n / 10000)) ≤ size
  upper_enough at size l h = rw (upper_is l) at h

  -- The digit at a unit.
  module _ (unit : ℕ) (old : List ℕ) (at : ℕ) where
    pub wrote_no_digit : n < unit → Wrote old at (digit_at unit n) old at
    unfolding digit_at
    wrote_no_digit l = rw (lt-ltb n unit l) (record { stored = refl; moved = sym (add-zero at) })

    pub digit_room : unit ≤ n → at + length (digit_at unit n) ≤ length old → at < length old
    unfolding digit_at
    digit_room l h = let k : at + 1 ≤ length old = rw (le-ltb n unit l) at h in omega arith

    pub wrote_digit : (new : List ℕ) (next : ℕ) → unit ≤ n → Wrote old at (digit (n / unit % 10) ∷ []) new next → Wrote old at (digit_at unit n) new next
    unfolding digit_at
    wrote_digit new next l W = rw (le-ltb n unit l) W

-- A number below 10 ^ k has at most k digits.
pub decimal_short : (k n : ℕ) → n < 10 ^ suc k → length (decimal n) ≤ suc k
decimal_short zero n h = let e = ap length (decimal_one n (omega arith)) in omega arith
decimal_short (suc k) n h =
    by_bool (ltb n 10) (λ t. let e = ap length (decimal_one n (ltb-true n 10 t)) in omega arith)
    (λ f. let l = ltb-false n 10 f in
    let e = decimal_longer n l in
    let s = decimal_short k (n / 10) ((div-lt_iff_lt-mul (omega arith)).1 (omega arith)) in
    omega arith)

-- A number of 64 bits has at most 20.
pub decimal_wide : (n : ℕ) → Fits w64 n → length (decimal n) ≤ 20
decimal_wide n f = decimal_short 19 n (let h = f.fits in omega arith)

-- A number below 1,000, by its number of digits.
module _ (n : ℕ) where
  two_digits : 10 ≤ n → n < 100 → decimal n ≡ digit (n / 10) ∷ digit (n % 10) ∷ []
  two_digits l h = decimal_more n l ∙ ap (λ ds. ds ++ (digit (n % 10) ∷ [])) (decimal_one (n / 10) (omega arith))

  three_digits : 100 ≤ n → n < 1000 → decimal n ≡ digit (n / 100) ∷ digit (n / 10 % 10) ∷ digit (n % 10) ∷ []
  three_digits l h =
      let e : n / 10 / 10 ≡ n / 100 = div-div-eq-div-mul n 10 10 in
      decimal_more n (omega arith)
      ∙ ap (λ ds. ds ++ (digit (n % 10) ∷ [])) (two_digits_of e)
    where
      two_digits_of : n / 10 / 10 ≡ n / 100 → decimal (n / 10) ≡ digit (n / 100) ∷ digit (n / 10 % 10) ∷ []
      two_digits_of e = decimal_more (n / 10) (omega arith) ∙ ap (λ ds. ds ++ (digit (n / 10 % 10) ∷ [])) (decimal_one (n / 10 / 10) (omega arith) ∙ ap (λ k. digit k ∷ []) e)

  pub small_one : n < 10 → SmallLength n 1
  small_one l = record { is = sym (ap length (decimal_one n l)); few = omega arith }

  pub small_two : 10 ≤ n → n < 100 → SmallLength n 2
  small_two l h = record { is = sym (ap length (two_digits l h)); few = omega arith }

  pub small_three : 100 ≤ n → n < 1000 → SmallLength n 3
  small_three l h = record { is = sym (ap length (three_digits l h)); few = omega arith }

  module _ (old : List ℕ) (at : ℕ) (room : at + length (decimal n) ≤ length old) where
    pub digits_room : at < length old
    digits_room = omega (arith, decimal_some n)

    module _ (one : List ℕ) (a d : ℕ) (A : Wrote old at (d ∷ []) one a) where
      pub second_room : 10 ≤ n → a < length one
      second_room l = let e = decimal_longer n l in let f = decimal_some (n / 10) in omega (arith, A.moved, wrote_length _ _ _ _ _ A)

      pub third_room : (two : List ℕ) (b k : ℕ) → Wrote one a (k ∷ []) two b → 100 ≤ n → n < 1000 → b < length two
      third_room two b k B l h =
          let e = (small_three l h).is in omega (arith, A.moved, B.moved, wrote_length _ _ _ _ _ A, wrote_length _ _ _ _ _ B)

  module _ (old new : List ℕ) (at next : ℕ) where
    pub wrote_one_digit : n < 10 → Wrote old at (digit n ∷ []) new next → Wrote old at (decimal n) new next
    wrote_one_digit l W = rw (decimal_one n l) W

    module _ (one : List ℕ) (a : ℕ) where
      pub wrote_two_digits : 10 ≤ n → n < 100 → Wrote old at (digit (n / 10) ∷ []) one a → Wrote one a (digit (n % 10) ∷ []) new next
          → Wrote old at (decimal n) new next
      wrote_two_digits l h U W = rw (two_digits l h) (wrote_append old one new _ _ at a next U W)

      pub wrote_three_digits : (two : List ℕ) (b : ℕ) → 100 ≤ n → n < 1000 → Wrote old at (digit (n / 100) ∷ []) one a
          → Wrote one a (digit (n / 10 % 10) ∷ []) two b → Wrote two b (digit (n % 10) ∷ []) new next → Wrote old at (decimal n) new next
      wrote_three_digits two b l h A B C = rw (three_digits l h) (wrote_append old two new _ _ at b next (wrote_append old one two _ _ at a b A B) C)

-- A reader that puts each digit behind those so far reads a number back.
module _ {A : Type 0} (read : ℕ → List ℕ → A) (step : (n d : ℕ) (bs : List ℕ) → d < 10 → read n (digit d ∷ bs) ≡ read (n * 10 + d) bs) where
  read_digits : (k n : ℕ) (bs : List ℕ) → n < k → read 0 (digits k n ++ bs) ≡ read n bs
  unfolding digits
  read_digits zero n bs h = absurd (omega arith)
  read_digits (suc k) n bs h =
      by_bool (ltb n 10) (λ t. rw t (step 0 n bs (ltb-true n 10 t) ∙ ap (λ j. read j bs) (let e : 0 * 10 + n ≡ n = omega arith in e)))
      (λ f. let l = ltb-false n 10 f in
      rw f (ap (read 0) (append_assoc (digits k (n / 10)) (digit (n % 10) ∷ []) bs)
      ∙ (read_digits k (n / 10) (digit (n % 10) ∷ bs) (omega arith)
      ∙ (step (n / 10) (n % 10) bs (omega arith) ∙ ap (λ j. read j bs) (let e : n / 10 * 10 + n % 10 ≡ n = omega arith in e)))))

  pub read_decimal : (n : ℕ) (bs : List ℕ) → read 0 (decimal n ++ bs) ≡ read n bs
  unfolding decimal
  read_decimal n bs = read_digits (suc n) n bs (omega arith)
