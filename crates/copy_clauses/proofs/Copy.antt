-- Laws of writing the clauses of one copy.
use mathlib.Core.List.{List, [], ◌∷◌, ◌++◌, map, flat_map}
use mathlib.Core.Path.{◌≡◌, refl, sym, ◌∙◌, ap, subst}
use Prim.Native.Nat.{ℕ, ◌+◌, ◌≤◌, ◌<◌}
use native.Mathlib.Omega.{arith}
use lib.IntN.{ℤ, pos}
use lib.ListN.{length, length-append, length-map}
use Rattle.lists.specs.Lists.{range}
use Rattle.lists.proofs.Nodup.{length_range}
use Rattle.unfolding.specs.Clauses.{Literal, positive, negative, Clause, copy_clauses, signed, clause_words, signed_words}
use Rattle.writer.specs.inner.Wrote.{Wrote}
use Rattle.writer.proofs.Writing.{wrote_append, wrote_length}
use Rattle.copies.specs.inner.Kept.{Inside}
use Rattle.copies.proofs.Keeping.{bodies_number}
use Rattle.copy_clauses.specs.inner.Ends.{rules_words, first_words, copy_clause_words, CopyPut}
use Rattle.copy_clauses.specs.declared.Ends.{Ends}

-- How many words a clause has, and the clause of a copy's rules.
pub clause_words_lem : (c : Clause) → length (clause_words c) ≡ length c + 1
unfolding clause_words
clause_words_lem c = let e = length-append (map signed c) (pos 0 ∷ []) in let f = length-map c signed in omega arith

pub first_words_lem : (h d k : ℕ) → length (clause_words (negative h ∷ map positive (range d k))) ≡ k + 2
first_words_lem h d k =
    let e = clause_words_lem (negative h ∷ map positive (range d k)) in
    let g = length-map {B = Literal} (range d k) positive ∙ length_range d k in
    omega arith

-- A copy.
module _ (t p vars listed : List ℕ) (c : Ends) (v : ℕ) where
  abbrev kept : ℕ
  kept = length listed

  abbrev firsts : List ℤ
  firsts = first_words v c.rule kept

  abbrev seconds : List ℤ
  seconds = rules_words t p vars v c.rule listed

  copy_is : copy_clause_words t p vars c.rule v listed ≡ firsts ++ seconds
  unfolding copy_clause_words copy_clauses signed_words flat_map first_words rules_words
  copy_is = ap (λ n. first_words v c.rule n ++ seconds) (bodies_number t p vars listed)

  first_size : length firsts ≡ kept + 2
  unfolding first_words
  first_size = first_words_lem v c.rule kept

  copy_size : length (copy_clause_words t p vars c.rule v listed) ≡ kept + 2 + length seconds
  copy_size = let e = ap length copy_is ∙ length-append firsts seconds in let f = first_size in omega arith

  pub copy_numbers : c.rule < 1000000 → Inside listed → c.rule + length listed < 2147483648
  copy_numbers l I = let f = I.few in omega arith

  module _ (old : List ℤ) (room : c.at + length (copy_clause_words t p vars c.rule v listed) ≤ length old) where
    pub copy_first : c.at + length listed + 2 ≤ length old
    copy_first = let e = copy_size in omega arith

    pub copy_second : (mid : List ℤ) (next : ℕ) → Wrote old c.at (first_words v c.rule (length listed)) mid next
        → next + length (rules_words t p vars v c.rule listed) ≤ length mid
    copy_second mid next W = let n = wrote_length _ _ _ _ _ W in let e = copy_size in let f = first_size in let m = W.moved in omega arith

  pub copy_put : (old mid new : List ℤ) (next r : ℕ) → Wrote old c.at (first_words v c.rule (length listed)) mid next
      → Wrote mid next (rules_words t p vars v c.rule listed) new r
      → CopyPut t p vars c v listed old new (record { at = r; rule = c.rule + length listed })
  copy_put old mid new next r W K = record { wrote = subst (λ ws. Wrote old c.at ws new r) (sym copy_is) (wrote_append _ _ _ _ _ _ _ _ W K); rule = refl }
