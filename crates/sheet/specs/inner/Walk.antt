-- What is known of a sheet whose records have passed, and a walk over them.
use Rattle.std.specs.Prelude.{true, ◌≡◌, ℕ, ◌-◌, ◌≤◌, ◌<◌, length}
use mathlib.Core.List.{List, ◌∷◌, Memᴰ}
use Rattle.asp.specs.Program.{body_below}
use Rattle.sheet.specs.Questions.{first_refusal}
use Rattle.sheet.specs.Format.{size, positives, end, kind_fits, kind_passes, lists_fit, record_questions, records_questions, form_questions}
use Rattle.sheet.specs.Sheet.{Record, record_at, records_from}
use Rattle.sheet.specs.declared.Limits.{Limits}

-- The refusal of questions 4 to 6 of a record.
abbrev pub record_refusal : ℕ → List ℕ → ℕ → ℕ
record_refusal n s at = first_refusal (record_questions n s at)

-- Of k records, and of what remains.
abbrev pub records_refusal : ℕ → ℕ → List ℕ → ℕ → ℕ
records_refusal k n s at = first_refusal (records_questions k n s at)

-- Of questions 1 to 6.
abbrev pub form_refusal : Limits → List ℕ → ℕ
form_refusal L s = first_refusal (form_questions L s)

-- What a record that passes question 4 is known by.
pub record Complete (s : List ℕ) (at : ℕ) : Type 0 where
  pub starts : at < length s
  pub three : 3 ≤ size s at
  pub fits : end s at ≤ length s
  pub split : positives s at ≤ size s at - 3

-- The record at `at` has passed questions 4, 5 and 6.
pub record Known (s : List ℕ) (n at : ℕ) : Type 0 where
  pub whole : Complete s at
  pub kinds : kind_passes n s at ≡ true
  pub lists : lists_fit n s at ≡ true

-- The records from `at` on, `left` of them, have passed.
pub record Walk (s : List ℕ) (n left at : ℕ) : Type 0 where
  pub passed : records_refusal left n s at ≡ 0

-- One record further: where it ends, what is known of it, and what is left.
pub record Stepped (s : List ℕ) (n left at r : ℕ) : Type 0 where
  pub is : r ≡ end s at
  pub known : Known s n at
  pub rest : Walk s n (left - 1) r
  pub list : records_from left s at ≡ record_at s at ∷ records_from (left - 1) s r

-- The record has passed questions 5 and 6: it names atoms below n alone.
pub record Sound (n : ℕ) (r : Record) : Type 0 where
  pub kinds : kind_fits n r.kind r.head ≡ true
  pub atoms : body_below n r.body ≡ true

-- So have all of the records.
abbrev pub AllSound : ℕ → List Record → Type 0
AllSound n rs = (r : Record) → Memᴰ r rs → Sound n r
