-- Text: bytes of ASCII, numbers in decimal, and the line that a program prints for a refusal.
use Rattle.std.specs.Prelude.{cond, List, [], ◌∷◌, ◌++◌, ℕ, zero, suc, ◌+◌, ◌/◌, ◌%◌, ltb}
use Prim.Native.Char.{code}
use Prim.Native.String as text

-- The bytes of a text.
abbrev pub ascii : text.String → List ℕ
ascii text.[] = []
ascii (text.◌∷◌ c s) = code c ∷ ascii s

-- A digit: 0 to 9 are 48 to 57 in ASCII.
abbrev pub digit : ℕ → ℕ
digit d = 48 + d

-- The digits of n, the last k at most.
unfoldable pub digits : ℕ → ℕ → List ℕ
digits zero n = []
digits (suc k) n = cond (ltb n 10) (digit n ∷ []) (digits k (n / 10) ++ (digit (n % 10) ∷ []))

-- A number in decimal, with no zero in front. It has no more than n + 1 digits.
unfoldable pub decimal : ℕ → List ℕ
decimal n = digits (suc n) n

-- A refusal: `refused`, one space and the number.
unfoldable pub refused_text : ℕ → List ℕ
refused_text refusal = ascii "refused " ++ decimal refusal ++ ascii "\n"
