-- The starred probes of document 01 ("Probes at the limits"), one of copies that can never come on, two of lparse text, and two of missing
-- chains: a table of what is asked and what is expected, and that the two agree.
use Rattle.std.specs.Prelude.{◌≡◌, ℕ, List, [], ◌∷◌, map, replicate, pos as plus, neg_ℤ}
use Rattle.lists.specs.Lists.{filter, range}
use Rattle.asp.specs.Count.{stable_models}
use Rattle.unfolding.specs.Missing.{missing_chains}
use Rattle.sheet.specs.Format.{atoms_byte}
use Rattle.sheet.specs.Sequence.{entries}
use Rattle.sheet.specs.Sheet.{program}
use Rattle.operations.specs.Outcome.{Outcome, refused, answered}
use Rattle.text.specs.Text.{ascii}
use Rattle.operations.specs.Calls.{Call, count, default, lparse, test, missing, clauses, Buffer, nothing, naturals, integers, describe, outcome_of, left}
use Rattle.office.specs.Office.{office}

-- No atom and no rule.
unfoldable pub empty_sheet : List ℕ
empty_sheet = 1 ∷ 0 ∷ 5 ∷ 0 ∷ 0 ∷ []

-- A sequence without entries.
unfoldable pub no_entries : List ℕ
no_entries = 1 ∷ 0 ∷ 0 ∷ []

-- 0 if 1; 1 if 0.
unfoldable pub positive_loop : List ℕ
positive_loop = 1 ∷ 0 ∷ 15 ∷ 2 ∷ 2 ∷ 4 ∷ 0 ∷ 0 ∷ 1 ∷ 1 ∷ 4 ∷ 0 ∷ 1 ∷ 1 ∷ 0 ∷ []

-- 0 if not 0.
unfoldable pub odd_loop : List ℕ
odd_loop = 1 ∷ 0 ∷ 10 ∷ 1 ∷ 1 ∷ 4 ∷ 0 ∷ 0 ∷ 0 ∷ 0 ∷ []

-- 0 if not 1; 1 if not 0.
unfoldable pub even_loop : List ℕ
even_loop = 1 ∷ 0 ∷ 15 ∷ 2 ∷ 2 ∷ 4 ∷ 0 ∷ 0 ∷ 0 ∷ 1 ∷ 4 ∷ 0 ∷ 1 ∷ 0 ∷ 0 ∷ []

-- No atom, and a constraint with an empty body.
unfoldable pub empty_constraint : List ℕ
empty_constraint = 1 ∷ 0 ∷ 9 ∷ 0 ∷ 1 ∷ 3 ∷ 1 ∷ 0 ∷ 0 ∷ []

-- Sheet A: 0 if 1; 1 if 0; 0 if not 2; 2 if not 0.
unfoldable pub sheet_a : List ℕ
sheet_a = 1 ∷ 0 ∷ 25 ∷ 3 ∷ 4 ∷ 4 ∷ 0 ∷ 0 ∷ 1 ∷ 1 ∷ 4 ∷ 0 ∷ 1 ∷ 1 ∷ 0 ∷ 4 ∷ 0 ∷ 0 ∷ 0 ∷ 2 ∷ 4 ∷ 0 ∷ 2 ∷ 0 ∷ 0 ∷ []

-- The entries 0 1 2.
unfoldable pub three_entries : List ℕ
three_entries = 1 ∷ 0 ∷ 3 ∷ 0 ∷ 1 ∷ 2 ∷ []

-- The entries 0 1 0 2.
unfoldable pub four_entries : List ℕ
four_entries = 1 ∷ 0 ∷ 4 ∷ 0 ∷ 1 ∷ 0 ∷ 2 ∷ []

-- The entries 0 1 0.
unfoldable pub loop_entries : List ℕ
loop_entries = 1 ∷ 0 ∷ 3 ∷ 0 ∷ 1 ∷ 0 ∷ []

-- What can be asked: a call of an operation, the stable models of a sheet, or the chains that are not found in a sequence.
pub data Query : Type 0 where
  asked : Call → Query
  models : List ℕ → Query
  all_missing : List ℕ → List ℕ → Query

-- What is answered: the outcome of a call and the buffer afterwards, or lists of atoms.
pub data Answer : Type 0 where
  given : Outcome → Buffer → Answer
  atoms : List (List ℕ) → Answer

-- The answers of the definitions behind the office's promises. A count comes with its verdict: 0 for none, 1 for clear, 2 for split.
unfoldable pub answer : Query → Answer
answer (asked c) = given (outcome_of office c) (left (outcome_of office c) (describe c))
-- The stable models, each as the list of its atoms.
answer (models s) = atoms (map (λ X. filter X (range 0 (atoms_byte s))) (stable_models (program s)))
-- The chains that are not found in the sequence, and the first of them.
answer (all_missing s q) = atoms (missing_chains (program s) (entries q))

-- A buffer of so many bytes or words, all 0, that is lent.
abbrev pub room : ℕ → List ℕ
room k = replicate k 0

-- The table: what is asked, and what is expected.
unfoldable pub table : List (Query × Answer)
table =
    (asked (count empty_sheet), given (answered (1 ∷ 1 ∷ [])) nothing)
    ∷ (asked (clauses empty_sheet no_entries []), given (answered (0 ∷ 0 ∷ 0 ∷ [])) (integers []))
    ∷ (asked (count positive_loop), given (answered (1 ∷ 1 ∷ [])) nothing)
    ∷ (models positive_loop, atoms ([] ∷ []))
    ∷ (asked (count odd_loop), given (answered (0 ∷ 0 ∷ [])) nothing)
    ∷ (asked (count even_loop), given (answered (2 ∷ 2 ∷ [])) nothing)
    ∷ (asked (count empty_constraint), given (answered (0 ∷ 0 ∷ [])) nothing)
    ∷ (asked (clauses empty_constraint no_entries (replicate 1 (plus 7))), given (answered (1 ∷ 0 ∷ 1 ∷ [])) (integers (plus 0 ∷ [])))
    ∷ (asked (count sheet_a), given (answered (2 ∷ 2 ∷ [])) nothing)
    ∷ (asked (default sheet_a (room 8)), given (answered (8 ∷ [])) (naturals (1 ∷ 0 ∷ 5 ∷ 0 ∷ 1 ∷ 0 ∷ 1 ∷ 2 ∷ [])))
    ∷ (asked (test sheet_a three_entries), given (refused 9) nothing)
    ∷ (all_missing sheet_a three_entries, atoms ((1 ∷ 0 ∷ []) ∷ []))
    ∷ (asked (missing sheet_a three_entries (room 2)), given (answered (2 ∷ [])) (naturals (1 ∷ 0 ∷ [])))
    ∷ (asked (missing sheet_a four_entries []), given (refused 14) (naturals []))
    ∷ (asked (test sheet_a four_entries), given (answered []) nothing)
    -- The first copy of 0 has no rule, for 1 has no copy yet; so the copy of 1 has none, and the last copy of 0 has none.
    ∷ (asked (clauses positive_loop loop_entries (replicate 6 (plus 7))), given (answered (6 ∷ 3 ∷ 3 ∷ [])) (integers (neg_ℤ (plus 3) ∷ plus 0 ∷ neg_ℤ (plus 2) ∷ plus 0 ∷ neg_ℤ (plus 1) ∷ plus 0 ∷ [])))
    ∷ (asked (lparse empty_sheet (room 18)), given (answered (18 ∷ [])) (naturals (ascii "0\n0\nB+\n0\nB-\n1\n0\n1\n")))
    ∷ (asked (lparse sheet_a (room 73)), given (answered (73 ∷ [])) (naturals (ascii "1 2 1 0 3\n1 3 1 0 2\n1 2 1 1 4\n1 4 1 1 2\n0\n2 a0\n3 a1\n4 a2\n0\nB+\n0\nB-\n1\n0\n1\n")))
    ∷ []

-- The two columns agree: every probe is answered as expected.
abbrev pub ProbesHold : Type 0
ProbesHold = map (λ p. answer p.0) table ≡ map (λ p. p.1) table
