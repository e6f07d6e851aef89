-- The bytes of a sheet ("Bytes of a sheet" of document 01) and questions 1 to 6.
use Rattle.std.specs.Prelude.{Bool, true, ◌&&◌, ◌||◌, List, [], ◌∷◌, ◌++◌, ℕ, zero, suc, ◌+◌, ◌*◌, ◌-◌, eqb, ltb, leb, length, get_or, take, drop}
use Rattle.lists.specs.Lists.{below}
use Rattle.sheet.specs.Questions.{ask}
use Rattle.sheet.specs.declared.Limits.{Limits}

-- The byte at an index.
abbrev pub byte : List ℕ → ℕ → ℕ
byte s i = get_or s i 0

-- The length field: two bytes, big-endian.
abbrev pub length_field : List ℕ → ℕ
length_field s = byte s 1 * 256 + byte s 2

-- The numbers of atoms and of records.
abbrev pub atoms_byte : List ℕ → ℕ
atoms_byte s = byte s 3

abbrev pub records_byte : List ℕ → ℕ
records_byte s = byte s 4

-- The record at `at`: k, kind, head, p, then p positive and k - 3 - p negative atoms; the next record starts at its end.
abbrev pub size : List ℕ → ℕ → ℕ
size s at = byte s at

abbrev pub kind : List ℕ → ℕ → ℕ
kind s at = byte s (at + 1)

abbrev pub head : List ℕ → ℕ → ℕ
head s at = byte s (at + 2)

abbrev pub positives : List ℕ → ℕ → ℕ
positives s at = byte s (at + 3)

abbrev pub end : List ℕ → ℕ → ℕ
end s at = at + 1 + size s at

abbrev pub middle : List ℕ → ℕ → ℕ
middle s at = at + 4 + positives s at

-- The slice of the bytes from a up to e.
abbrev pub part : ℕ → ℕ → List ℕ → List ℕ
part a e s = take (e - a) (drop a s)

-- The positive and the negative atoms of the record.
abbrev pub pos_of : List ℕ → ℕ → List ℕ
pos_of s at = part (at + 4) (middle s at) s

abbrev pub neg_of : List ℕ → ℕ → List ℕ
neg_of s at = part (middle s at) (end s at) s

-- Question 1: at least 5 bytes, the first being 1.
unfoldable pub opens : List ℕ → Bool
opens s = leb 5 (length s) && eqb (byte s 0) 1

-- Question 2: the length field equals the bytes given.
unfoldable pub measured : List ℕ → Bool
measured s = eqb (length_field s) (length s)

-- Question 3: n and m are within the limits.
unfoldable pub limited : Limits → List ℕ → Bool
limited L s = leb (atoms_byte s) L.atoms && leb (records_byte s) L.records

-- Question 4, of a record: complete within the sheet, k at least 3, p at most k - 3.
unfoldable pub complete : List ℕ → ℕ → Bool
complete s at = ltb at (length s) && leb 3 (size s at) && leb (end s at) (length s) && leb (positives s at) (size s at - 3)

-- Question 5: kind 0 or 2 with head below n, or 1 with head 0.
unfoldable pub kind_fits : ℕ → ℕ → ℕ → Bool
kind_fits n k h = eqb k 0 && ltb h n || eqb k 1 && eqb h 0 || eqb k 2 && ltb h n

-- The same of the record at `at`.
unfoldable pub kind_passes : ℕ → List ℕ → ℕ → Bool
kind_passes n s at = kind_fits n (kind s at) (head s at)

-- The list rises strictly.
unfoldable pub rising : List ℕ → Bool
rising [] = true
rising (a ∷ []) = true
rising (a ∷ b ∷ l) = ltb a b && rising (b ∷ l)

-- Question 6, of a list: its atoms are below n and it rises strictly.
unfoldable pub list_fits : ℕ → List ℕ → Bool
list_fits n l = below n l && rising l

-- Question 6, of a record.
unfoldable pub lists_fit : ℕ → List ℕ → ℕ → Bool
lists_fit n s at = list_fits n (pos_of s at) && list_fits n (neg_of s at)

-- Questions 4, 5, 6 of the record at `at`.
unfoldable pub record_questions : ℕ → List ℕ → ℕ → List ℕ
record_questions n s at = ask (complete s at) 4 ∷ ask (kind_passes n s at) 5 ∷ ask (lists_fit n s at) 6 ∷ []

-- The same of k records from `at` on, each finished before the next; then, does nothing remain?
unfoldable pub records_questions : ℕ → ℕ → List ℕ → ℕ → List ℕ
records_questions zero n s at = ask (eqb at (length s)) 4 ∷ []
records_questions (suc k) n s at = record_questions n s at ++ records_questions k n s (end s at)

-- Questions 1 to 6.
unfoldable pub form_questions : Limits → List ℕ → List ℕ
form_questions L s = ask (opens s) 1 ∷ ask (measured s) 2 ∷ ask (limited L s) 3 ∷ records_questions (records_byte s) (atoms_byte s) s 5
