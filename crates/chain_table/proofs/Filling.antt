-- Laws of the entries read into a component's table, from the last to the first.
use mathlib.Core.Bool.{true}
use mathlib.Core.List.Memᴰ
use mathlib.Core.List.Sublistᴰ
use mathlib.Core.List.{List, [], ◌∷◌, ◌++◌, append-nil, append_assoc, Memᴰ, Sublistᴰ}
use mathlib.Core.Path.{◌≡◌, refl, sym, ◌∙◌, ap, subst}
use Prim.Native.Nat.{ℕ, zero, suc, ◌+◌, ◌-◌, ◌^◌, ◌≤◌, ◌<◌}
use native.Mathlib.Omega.{arith}
use lib.ListN.{length, get_or, drop, take, length-drop}
use lib.Seq.{drop-drop, take_all}
use Rattle.lists.specs.Lists.{below}
use Rattle.lists.proofs.Bools.{true_false}
use Rattle.lists.proofs.Members.{below_at}
use Rattle.lists.proofs.Sublists.{mem_sublist}
use Rattle.asp.specs.Program.{Program}
use Rattle.unfolding.proofs.Starting.{started_none}
use Rattle.bits.specs.inner.Sets.{has}
use Rattle.bits.proofs.Digits.{zero_has}
use Rattle.chain_rows.specs.inner.Subsets.{Setting, AtPlaces, SubsetTable, Power, WithEntry}
use Rattle.chain_table.specs.inner.Filled.{Cleared, Filled}

-- Before the first entry nothing is found.
table_start : (P : Program) (rows atoms : List ℕ) (k : ℕ) → Setting P rows atoms k → (table : List ℕ) → ((S : ℕ) → S < 2 ^ k → get_or table S 0 ≡ 0) → SubsetTable P atoms k table []
table_start P rows atoms k K table z =
    record {
      right = λ S l p m e. (
        λ t. absurd (true_false t (ap (λ n. has n p) (z S l) ∙ zero_has p)),
        λ D. absurd (started_none P K.formed (AtPlaces atoms k S) (get_or atoms p 0) (K.low p m) (p, m, refl, e) D),
      );
    }

-- The entries from a position on that are done are read into the table, and the rest is left.
pub record Reading (rows atoms : List ℕ) (k : ℕ) (q : List ℕ) (from : ℕ) (rest table : List ℕ) : Type 0 where
  pub done : List ℕ
  pub whole : rest ++ done ≡ drop from q
  pub read : (P : Program) → Setting P rows atoms k → SubsetTable P atoms k table done

module _ (rows atoms : List ℕ) (k : ℕ) (q : List ℕ) (from : ℕ) where
  pub reading_start : (size : ℕ) (rest table : List ℕ) → Power k size → Cleared size table → rest ≡ take (length q - from) (drop from q) → Reading rows atoms k q from rest table
  reading_start size rest table N Z e =
      record {
        done = [];
        whole = append-nil rest ∙ (e ∙ take_all (length q - from) (drop from q) (let e = length-drop from q in omega arith));
        read = λ P K. table_start P rows atoms k K table (λ S m. Z.empty S (let e = N.is in omega arith));
      }

  module _ (x y : ℕ) (rest left table : List ℕ) (R : Reading rows atoms k q from rest table) (e : rest ≡ left ++ y ∷ []) (is : x ≡ y) where
    pub reading_turn : (new : List ℕ) → WithEntry rows atoms k x table new → Reading rows atoms k q from left new
    reading_turn new E =
        record { done = x ∷ R.done; whole = ap (λ a. left ++ a ∷ R.done) is ∙ (sym (append_assoc left (y ∷ []) R.done) ∙ (ap (λ l. l ++ R.done) (sym e) ∙ R.whole)); read = λ P K. E.turns P R.done K (R.read P K) }

    -- What the code asks on the way: an entry is an atom.
    pub reading_low : 3 ≤ from → below 64 (drop 3 q) ≡ true → x < 64
    reading_low l h = below_at 64 (drop 3 q) h x (mem_sublist later (subst (Memᴰ x) R.whole (Memᴰ.append_left R.done (subst (Memᴰ x) (sym e) (Memᴰ.append_right left (Memᴰ.head is))))))
      where
        shorter : (k : ℕ) (l : List ℕ) → Sublistᴰ (drop k l) l
        shorter zero l = Sublistᴰ.refl l
        shorter (suc k) [] = Sublistᴰ.refl []
        shorter (suc k) (y ∷ l) = Sublistᴰ.cons (shorter k l)

        later : Sublistᴰ (drop from q) (drop 3 q)
        later = subst (λ d. Sublistᴰ d (drop 3 q)) (drop-drop (from - 3) 3 q ∙ ap (λ i. drop i q) (let e : 3 + (from - 3) ≡ from = omega arith in e)) (shorter (from - 3) (drop 3 q))

  pub reading_end : (rest table : List ℕ) → Reading rows atoms k q from rest table → length rest ≡ 0 → Filled rows atoms k (drop from q) table
  reading_end [] table R e = record { is = λ P K. subst (SubsetTable P atoms k table) R.whole (R.read P K) }
  reading_end (y ∷ rest) table R e = absurd (omega arith)
