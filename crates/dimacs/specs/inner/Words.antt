-- The text of signed words.
use mathlib.Core.List.{List, [], ◌++◌, flat_map}
use Rattle.std.specs.Prelude.{ℕ, zero, suc, ℤ, pos, negsuc, nat_abs}
use Rattle.text.specs.Text.{ascii, decimal}

-- A minus sign, where the word is negative.
unfoldable pub sign_text : ℤ → List ℕ
sign_text (pos v) = []
sign_text (negsuc v) = ascii "-"

-- What stands behind a word, by its magnitude: the line's end behind 0, else a space.
unfoldable pub end_text : ℕ → List ℕ
end_text zero = ascii "\n"
end_text (suc v) = ascii " "

-- A word.
unfoldable pub word_text : ℤ → List ℕ
word_text w = sign_text w ++ decimal (nat_abs w) ++ end_text (nat_abs w)

-- Words, one behind the other.
unfoldable pub words_text : List ℤ → List ℕ
words_text ws = flat_map word_text ws
