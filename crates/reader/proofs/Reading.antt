-- Laws of reading a list of atoms and a record.
use mathlib.Core.Bool.{Bool, true, false, ◌||◌, or-false, or_assoc, or_comm}
use mathlib.Core.List.{List}
use mathlib.Core.Path.{◌≡◌, refl, sym, ◌∙◌, ap}
use Prim.Native.Nat.{ℕ, suc, ◌+◌, ◌≤◌, ◌<◌}
use native.Mathlib.Numerals.{add-one}
use native.Mathlib.Omega.{arith}
use lib.Dec.{eqb}
use lib.ListN.{length, get_or, drop, drop_of_length-le}
use lib.Seq.{drop-cons}
use Rattle.std.proofs.Common.{Result, Ok, Err}
use Rattle.lists.specs.Lists.{any, member}
use Rattle.refusals.specs.declared.Refusal.{Refusal}
use Rattle.refusals.specs.declared.Refusal.TheVariants as refusal
use Rattle.refusals.specs.Numbers.{number}
use Rattle.refusals.proofs.Asking.{number_positive, asked_value, asked_refusal}
use Rattle.bits.specs.inner.Sets.{has, With, ByteAt, Gathered}
use Rattle.bits.proofs.Digits.{zero_has}
use Rattle.bits.specs.inner.Visited.{listed}
use Rattle.bits.proofs.Rising.{listed_gathered}
use Rattle.sheet.specs.Questions.{ask, first_refusal}
use Rattle.sheet.specs.Format.{part, complete, kind_passes, list_fits, lists_fit, record_questions}
use Rattle.sheet.specs.Sheet.{record_at}
use Rattle.sheet.proofs.Questions.{ask_yes, ask_passed, ask_refused, then_none}
use Rattle.sheet.proofs.Records.{record_incomplete, record_kind, lists_pos, lists_neg}
use Rattle.sheet.proofs.Lists.{climb_is, Climbing, climbing_start, climbing_below, climbing_above, climbing_turn, climbing_end}
use Rattle.reader.specs.declared.Entry.{Entry}
use Rattle.reader.specs.inner.Tabled.{record_of, Exact, Taken, ListRead, ListsRead, EntryRead}

-- The loop over a list: the list rises so far, and what is left of it and what is in the set are its members.
pub record Reading (n : ℕ) (l : List ℕ) (i low x : ℕ) : Type 0 where
  pub climbing : Climbing n l i low
  pub members : (b : ℕ) → (member b (drop i l) || has x b) ≡ member b l

module _ (n : ℕ) (l : List ℕ) where
  pub reading_start : Reading n l 0 0 0
  reading_start = record { climbing = climbing_start n l; members = λ b. ap (λ (y : Bool). member b l || y) (zero_has b) ∙ or-false (member b l) }

  unread : false ≡ list_fits n l → ListRead n l (Err refusal.Atoms)
  unfolding ask
  unread e = asked_refusal _ (Gathered l) refusal.Atoms (rw (sym e) refl)

  module _ (i low x : ℕ) (R : Reading n l i low x) where
    module _ (a : ℕ) (h : i < length l) (B : a ≡ get_or l i 0) where
      pub reading_below : a < low → ListRead n l (Err refusal.Atoms)
      reading_below k = unread (climbing_below n l i low a R.climbing h B k)

      pub reading_above : low ≤ a → n ≤ a → ListRead n l (Err refusal.Atoms)
      reading_above k m = unread (climbing_above n l i low a R.climbing h B k m)

      pub reading_turn : (r : ℕ) → low ≤ a → a < n → With x a r → Reading n l (i + 1) (a + 1) r
      unfolding member any
      reading_turn r k m W =
          record {
            climbing = climbing_turn n l i low a R.climbing h B k m;
            members = rw add-one (λ b.
                let rest = member b (drop (suc i) l) in
                let here = eqb b (get_or l i 0) in
                ap (λ (y : Bool). rest || y) (W.members b ∙ ap (λ k. eqb b k || has x b) B)
                ∙ (sym (or_assoc rest here (has x b)) ∙ (ap (λ (y : Bool). y || has x b) (or_comm rest here) ∙ (rw (drop-cons l i 0 h) at (R.members b)))));
          }

    pub reading_end : length l ≤ i → ListRead n l (Ok x)
    unfolding ask member any
    reading_end h =
        asked_value _ (Gathered l) x (rw (sym (climbing_end n l i low R.climbing h)) refl) (record { members = λ b. rw (drop_of_length-le l h) at (R.members b) })

-- What is read of a list that passes is its list, so it has what its list says.
module _ (n : ℕ) (l : List ℕ) (x : ℕ) (h : n ≤ 64) (R : ListRead n l (Ok x)) where
  fits : list_fits n l ≡ true
  fits = ask_passed (list_fits n l) 6 (λ e. omega arith) (sym R.says)

  listed_read : listed x ≡ l
  listed_read = listed_gathered n x l h (climb_is n l ∙ fits) R.value

  exact_read : Exact x
  exact_read a = R.value.members a ∙ ap (member a) (sym listed_read)

-- The lists of a record.
module _ (n : ℕ) (s : List ℕ) (at k p : ℕ) (K : ByteAt s at k) (P : ByteAt s (at + 3) p) where
  pub read_pos : (e : Refusal) → ListRead n (part (at + 4) (at + 4 + p) s) (Err e) → ListsRead n s at (Err e)
  read_pos e R =
      let f = ask_refused _ 6 (number e) R.says (number_positive e) in
      asked_refusal _ (Taken s at) e (R.says ∙ ap (λ b. ask b 6) (f ∙ lists_pos s at n p _ P refl f))

  module _ (x : ℕ) (l : n ≤ 64) (X : ListRead n (part (at + 4) (at + 4 + p) s) (Ok x)) where
    both : list_fits n (part (at + 4 + p) (at + 1 + k) s) ≡ lists_fit n s at
    both = lists_neg s at n k p _ _ K P refl (fits n _ x l X) refl

    pub read_neg : (e : Refusal) → ListRead n (part (at + 4 + p) (at + 1 + k) s) (Err e) → ListsRead n s at (Err e)
    read_neg e R = asked_refusal _ (Taken s at) e (R.says ∙ ap (λ b. ask b 6) both)

    pub read_both : (y : ℕ) → ListRead n (part (at + 4 + p) (at + 1 + k) s) (Ok y)
        → ListsRead n s at (Ok (record { row = record { kind = get_or s (at + 1) 0; head = get_or s (at + 2) 0; pos = x; neg = y }; end = at + 1 + k }))
    unfolding ask record_of record_at
    read_both y Y =
        asked_value _ (Taken s at) _ (rw (sym both ∙ fits n _ y l Y) refl)
        record {
          end = rw K.is refl;
          is = rw (listed_read n _ x l X, listed_read n _ y l Y, K.is, P.is) refl;
          exact = record { pos = exact_read n _ x l X; neg = exact_read n _ y l Y };
        }

-- The record.
module _ (n : ℕ) (s : List ℕ) (at : ℕ) (b : Bool) (B : b ≡ complete s at) where
  pub entry_incomplete : b ≡ false → EntryRead n s at (Err refusal.Record)
  entry_incomplete f = asked_refusal _ (Taken s at) refusal.Record (record_incomplete s at n b B f)

  module _ (t : b ≡ true) (c : Bool) (C : c ≡ kind_passes n s at) where
    pub entry_kind : c ≡ false → EntryRead n s at (Err refusal.Kind)
    entry_kind f = asked_refusal _ (Taken s at) refusal.Kind (record_kind s at n b c B t C f)

    pub entry_lists : (r : Result Entry Refusal) → c ≡ true → ListsRead n s at r → EntryRead n s at r
    unfolding record_questions first_refusal
    entry_lists r u R = record { says = R.says ∙ sym (ask_yes (sym B ∙ t) 4 _ ∙ ask_yes (sym C ∙ u) 5 _ ∙ then_none (ask (lists_fit n s at) 6)); value = R.value }
