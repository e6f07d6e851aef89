-- Laws of the rules kept for a copy.
use mathlib.Core.Bool.{Bool, true, false, not, ◌&&◌, ◌||◌, cond}
use mathlib.Core.List.{List, [], ◌∷◌, ◌++◌, append_assoc, append-nil}
use mathlib.Core.Path.{◌≡◌, refl, sym, ◌∙◌, ap, subst}
use Prim.Native.Nat.{ℕ, zero, suc, ◌+◌, ◌-◌, ◌^◌, ◌≤◌, ◌<◌}
use native.Mathlib.Omega.{arith}
use borrow.Author.Tests.{eq-eqb, ne_eqb, eqb-false}
use lib.Dec.{eqb, ltb}
use lib.ListN.{length, length-map, get_or, set, length-set, take}
use lib.Seq.{get_or-take, length-take-le}
use Rattle.std.proofs.lemmas.List.{take_more_set}
use mir.Val.{bool_byte}
use Rattle.lists.specs.Lists.{all, filter, range}
use Rattle.lists.proofs.Bools.{by_bool, bool_ext, true_false}
use Rattle.lists.proofs.Members.{all_at, all_intro, member_in, member_out, range_left, range_over}
use Rattle.asp.specs.Program.{Body}
use Rattle.bits.specs.inner.Sets.{has, WithIf, Without, Size, Both, Subset}
use Rattle.bits.specs.inner.Visited.{listed}
use Rattle.bits.proofs.Visiting.{listed_few, listed_member}
use Rattle.tables.specs.inner.Rows.{row_at, entry_at}
use Rattle.tables.specs.declared.SheetRecord.{SheetRecord}
use Rattle.tables.specs.declared.ProgramEntry.{ProgramEntry}
use Rattle.program.specs.inner.Held.{table_rule, ProgramTable, added_atom}
use Rattle.copies.specs.inner.Bodies.{entry_body, bodies_by, negative_atoms, atom_count}
use Rattle.copies.proofs.Tables.{stored}
use Rattle.copies.specs.inner.Kept.{keeps, Marked, kept_entries, Kept}

-- Whether the rule at an entry is kept.
module _ (t p : List ℕ) (i a component keeping : ℕ) (e : ProgramEntry) (E : e ≡ entry_at p i) (h : ℕ) (H : h ≡ e.head) where
  pub kept_head : (h ≡ a → ⊥) → false ≡ keeps a component keeping (table_rule t p i)
  unfolding keeps table_rule
  kept_head ne = sym (rw (ne_eqb (entry_at p i).head a (λ f. ne (H ∙ (ap (λ x. x.head) E ∙ f)))) refl)

  pub kept_positives : h ≡ a → (j : ℕ) (s : SheetRecord) → j ≡ e.source → s ≡ row_at t j → s.pos < 2 ^ 64 → (both : ℕ) (r : Bool) → Both s.pos component both → Subset both keeping r
      → r ≡ keeps a component keeping (table_rule t p i)
  unfolding keeps table_rule
  kept_positives f j s J S l both r B U =
      rw (eq-eqb (entry_at p i).head a (ap (λ x. x.head) (sym E) ∙ (sym H ∙ f)))
      (kept ∙ ap (λ x. all (λ b. not (has component b) || has keeping b) (listed x)) (ap (λ x. x.pos) (S ∙ ap (row_at t) (J ∙ ap (λ x. x.source) E))))
    where
      kept : r ≡ all (λ b. not (has component b) || has keeping b) (listed s.pos)
      kept = bool_ext
          (λ y. all_intro (λ b. not (has component b) || has keeping b) (listed s.pos)
          (λ b m. by_bool (has component b)
          (λ c. rw c (U.inside y b (B.members b ∙ rw (sym (listed_member s.pos b l) ∙ member_in b (listed s.pos) m, c) refl)))
          (λ c. rw c refl)))
          (λ y. U.all_inside (λ b h.
          let k = B.members b in
          by_bool (has s.pos b)
          (λ y'. by_bool (has component b)
          (λ c. let u = all_at (λ b. not (has component b) || has keeping b) (listed s.pos) y b (member_out b (listed s.pos) (listed_member s.pos b l ∙ y')) in rw c at u)
          (λ c. absurd (true_false h (k ∙ rw (y', c) refl))))
          (λ z. absurd (true_false h (k ∙ rw z refl)))))

-- The set without a, and then with it where a rule is kept.
pub marked : (keeping a rules off r : ℕ) (b : Bool) → b ≡ ltb 0 rules → Without keeping a off → WithIf off a b r → Marked keeping a rules r
marked keeping a rules off r b e W I = record { members = λ p. I.members p ∙ rw (W.members p, e) (either (has keeping p) (eqb p a) (ltb 0 rules)) }
  where
    either : (x here y : Bool) → (x && not here || here && y) ≡ cond here y x
    either true true y = refl
    either true false y = refl
    either false true y = refl
    either false false y = refl

-- At most one atom is added.
pub added_few : (added : ℕ) → length (added_atom added) ≤ 1
unfolding added_atom
added_few zero = omega arith
added_few (suc a) = omega arith

-- How many negative atoms a body has.
module _ (neg added n more : ℕ) (N : Size neg n) (M : more ≡ bool_byte (not (eqb added 0))) where
  added_number : more ≡ length (added_atom added)
  unfolding added_atom
  added_number = M ∙ one added
    where
      one : (a : ℕ) → bool_byte (not (eqb a 0)) ≡ length (added_atom a)
      one zero = refl
      one (suc a) = rw (ne_eqb (suc a) 0 (λ z. omega arith)) refl

  pub negative_fits : n + more < 4294967296
  unfolding listed
  negative_fits = let e = N.is in let f = listed_few neg in let a = added_number in let l = added_few added in omega arith

  pub negative_number : n + more ≡ negative_atoms neg added
  unfolding negative_atoms listed
  negative_number = let e = N.is in let a = added_number in omega arith

-- How many atoms bodies have.
pub atoms_append : (xs ys : List Body) → atom_count (xs ++ ys) ≡ atom_count xs + atom_count ys
unfolding atom_count
atoms_append [] ys = omega arith
atoms_append (b ∷ xs) ys = let e = atoms_append xs ys in omega arith

-- The loop over the rules: of the first j these are kept.
pub record Keeping (t : ProgramTable) (a component keeping j : ℕ) (entries : List ℕ) (kept : ℕ) : Type 0 where
  pub long : length entries ≡ 192
  pub few : kept ≤ j
  pub within : j ≤ t.rules
  pub low : (i : ℕ) → i < kept → get_or entries i 0 < 192
  pub rest : take kept entries ++ filter (λ i. keeps a component keeping (table_rule t.records t.entries i)) (range j (t.rules - j)) ≡ kept_entries t a component keeping

module _ (t : ProgramTable) (a component keeping : ℕ) where
  abbrev keep : ℕ → Bool
  keep i = keeps a component keeping (table_rule t.records t.entries i)

  abbrev left : ℕ → List ℕ
  left j = filter keep (range j (t.rules - j))

  left_all : left 0 ≡ kept_entries t a component keeping
  unfolding kept_entries
  left_all = ap (λ k. filter keep (range 0 k)) (let e : t.rules - 0 ≡ t.rules = omega arith in e)

  left_yes : (j : ℕ) → j < t.rules → keep j ≡ true → left j ≡ j ∷ left (j + 1)
  unfolding filter
  left_yes j lt y = ap (filter keep) (range_left j t.rules lt) ∙ rw y refl

  left_no : (j : ℕ) → j < t.rules → keep j ≡ false → left j ≡ left (j + 1)
  unfolding filter
  left_no j lt f = ap (filter keep) (range_left j t.rules lt) ∙ rw f refl

  left_none : (j : ℕ) → t.rules ≤ j → left j ≡ []
  unfolding filter
  left_none j l = ap (filter keep) (range_over j t.rules l)

  pub keeping_start : (entries : List ℕ) → length entries ≡ 192 → Keeping t a component keeping 0 entries 0
  unfolding range
  keeping_start entries l =
      record {
        long = l;
        few = omega arith;
        within = omega arith;
        low = λ i h. absurd (omega arith);
        rest = left_all;
      }

  module _ (j : ℕ) (entries : List ℕ) (kept : ℕ) (K : Keeping t a component keeping j entries kept) where
    module _ (lt : j < t.rules) (m : t.rules ≤ 192) where
      index : kept < length entries
      index = let f = K.few in let l = K.long in omega arith

      small : j < 192
      small = omega arith

      low_more : (i : ℕ) → i < kept + 1 → get_or (set entries kept j) i 0 < 192
      low_more i h = subst (λ x. x < 192) (sym (stored entries kept j i index)) (by_bool (eqb i kept) (λ y. rw y small) (λ f. rw f (let ne = eqb-false i kept f in K.low i (omega arith))))

      pub keeping_yes : (b : Bool) → b ≡ keeps a component keeping (table_rule t.records t.entries j) → b ≡ true → Keeping t a component keeping (j + 1) (set entries kept j) (kept + 1)
      keeping_yes b e y =
          record {
            long = length-set entries kept j ∙ K.long;
            few = let f = K.few in omega arith;
            within = omega arith;
            low = low_more;
            rest = ap (λ es. es ++ left (j + 1)) (take_more_set entries kept j index)
                ∙ (append_assoc (take kept entries) (j ∷ []) (left (j + 1)) ∙ (ap (λ es. take kept entries ++ es) (sym (left_yes j lt (sym e ∙ y))) ∙ K.rest));
          }

      pub keeping_no : (b : Bool) → b ≡ keeps a component keeping (table_rule t.records t.entries j) → b ≡ false → Keeping t a component keeping (j + 1) entries kept
      keeping_no b e f =
          record {
            long = K.long;
            few = let f = K.few in omega arith;
            within = omega arith;
            low = K.low;
            rest = ap (λ es. take kept entries ++ es) (sym (left_no j lt (sym e ∙ f))) ∙ K.rest;
          }

    pub keeping_end : t.rules ≤ j → t.rules ≤ 192 → Kept t a component keeping entries kept
    keeping_end l m =
        record {
          long = K.long;
          are = sym (append-nil (take kept entries)) ∙ (ap (λ es. take kept entries ++ es) (sym (left_none j l)) ∙ K.rest);
          few = few;
          inside = record { few = rw size few; low = λ i h. subst (λ x. x < 192) (sym (get_or-take kept entries i 0 (shorter i h))) (K.low i (shorter i h)) };
        }
      where
        few : kept ≤ 192
        few = let f = K.few in let w = K.within in omega arith

        size : length (take kept entries) ≡ kept
        size = length-take-le kept entries (let l = K.long in let f = few in omega arith)

        shorter : (i : ℕ) → i < length (take kept entries) → i < kept
        shorter i h = let e = size in omega arith

pub bodies_number : (t p vars entries : List ℕ) → length (bodies_by t p vars entries) ≡ length entries
unfolding bodies_by
bodies_number t p vars entries = length-map entries (entry_body t p vars)
