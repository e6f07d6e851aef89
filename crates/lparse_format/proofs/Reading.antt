-- The text of the program of records, read back.
use mathlib.Core.Bool.{true}
use mathlib.Core.List.Memᴰ
use mathlib.Core.List.{List}
use mathlib.Core.Path.{◌≡◌, subst}
use Prim.Native.Nat.{ℕ, ◌<◌}
use native.Mathlib.Omega.{arith}
use borrow.Author.Tests.{ne_eqb}
use Rattle.lists.specs.Lists.{all, range}
use Rattle.lists.proofs.Bools.{and_intro, not_intro}
use Rattle.sheet.specs.Sheet.{Record}
use Rattle.lparse_format.specs.Program.{symbol, lparse_program}
use Rattle.lparse_format.specs.Text.{symbol_text, lparse_text}
use Rattle.lparse_format.specs.Decoded.{read_symbol, read_lparse}
use Rattle.lparse_format.proofs.Decoding.{lacks, lacks_decimal, Line, symbol_line_lem, read_text}

-- The name of an atom has no line end and no space.
name_lacks : (end : ℕ) → end < 48 → (a : ℕ) → lacks end (symbol a).name ≡ true
unfolding symbol all
name_lacks end low a = and_intro (not_intro (ne_eqb 97 end (λ e. omega arith))) (lacks_decimal end low a)

named : (a : ℕ) → Line symbol_text read_symbol (symbol a)
unfolding symbol
named a = symbol_line_lem (symbol a) (omega arith) (name_lacks 10 (omega arith) a) (name_lacks 32 (omega arith) a)

pub read_program : (n : ℕ) (rs : List Record) → read_lparse (lparse_text (lparse_program n rs)) ≡ lparse_program n rs
unfolding lparse_program
read_program n rs =
    read_text (lparse_program n rs) (λ s m. let u = Memᴰ.of_map symbol (range 0 n) m in subst (Line symbol_text read_symbol) u.2 (named u.0)) (λ a m. absurd (Memᴰ.not-nil m))
    (λ a m. let e = Memᴰ.eq_of_singleton m in omega arith)
