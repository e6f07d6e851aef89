-- The bytes of a sequence and question 8.
use Rattle.std.specs.Prelude.{Bool, ◌&&◌, List, ℕ, ◌+◌, ◌*◌, eqb, leb, length, drop}
use Rattle.lists.specs.Lists.{below}
use Rattle.sheet.specs.Format.{byte}
use Rattle.sheet.specs.declared.Limits.{Limits}

-- The number of entries: two bytes, big-endian.
abbrev pub entries_field : List ℕ → ℕ
entries_field q = byte q 1 * 256 + byte q 2

-- The entries.
abbrev pub entries : List ℕ → List ℕ
entries q = drop 3 q

-- Question 8: at least 3 bytes, version 1, t within the limit, 3 + t bytes, every entry below n.
unfoldable pub sequence_fits : Limits → ℕ → List ℕ → Bool
sequence_fits L n q =
    leb 3 (length q) && eqb (byte q 0) 1 && leb (entries_field q) L.entries && eqb (length q) (3 + entries_field q) && below n (entries q)
