-- The loop over the entries of a sequence: which copies are left, and what is known of each as it is made.
use mathlib.Core.Bool.{Bool, true, false, cond}
use mathlib.Core.List.{List, [], ◌∷◌}
use mathlib.Core.Path.{◌≡◌, refl, sym, ◌∙◌, ap, ap₂, subst}
use Prim.Native.Nat.{ℕ, suc, ◌+◌, ◌≤◌, ◌<◌}
use native.Mathlib.Numerals.{add-one}
use native.Mathlib.Omega.{arith}
use borrow.Author.Tests.{eqb-true, eqb-false, eq-eqb, ne_eqb}
use lib.Dec.{eqb}
use lib.ListN.{length, get_or, take, drop, drop_of_length-le, set, length-set, replicate, length-replicate, get_or-replicate}
use lib.Seq.{drop-cons}
use Rattle.lists.proofs.Members.{below_more}
use Rattle.lists.specs.Lists.{below}
use Rattle.lists.proofs.Bools.{by_bool, bool_ext}
use Rattle.unfolding.specs.Graph.{same_component}
use Rattle.unfolding.specs.Unfolded.{Copy, last, latest_keeps, latest, replaced, kept_for, variable, copies_from, unfolded}
use Rattle.bits.specs.inner.Sets.{has}
use Rattle.bits.proofs.Digits.{zero_has}
use Rattle.sheet.specs.Sequence.{entries}
use Rattle.program.specs.inner.Held.{ProgramTable, program_in}
use Rattle.copies.specs.inner.Tables.{Values, Overlaid}
use Rattle.copies.specs.inner.Bodies.{bodies_by}
use Rattle.copies.specs.inner.Made.{EntryAt, again, Made}
use Rattle.copies.specs.inner.Kept.{Marked, Kept, Selected}
use Rattle.copies.specs.inner.Ready.{Ready, unfolded_in}
use Rattle.copies.specs.declared.EntryCopy.{EntryCopy}
use Rattle.copies.specs.declared.CopyStep.{CopyStep}
use Rattle.copies.proofs.Tables.{stored}
use Rattle.copies.proofs.Placing.{entry_below}
use Rattle.copies.proofs.Selecting.{kept_bodies_lem}

-- The copy of entry i behind those made so far, e of which are not their atom's last.
abbrev pub copy_of : ProgramTable → List ℕ → ℕ → ℕ → List Copy → Copy
copy_of t q i e past = record { atom = get_or q i 0; var = variable (program_in t) e (get_or q i 0) (again q i); kept = kept_for (program_in t) past (get_or q i 0) }

-- How many copies are not their atom's last, with that of entry i.
abbrev pub extra_of : List ℕ → ℕ → ℕ → ℕ
extra_of q i e = cond (again q i) (suc e) e

-- The loop over the entries from i on: the set of the atoms whose latest copy keeps a rule, and what holds of the copies made so far and of those that are left.
pub record CopiesLeft (t : ProgramTable) (q : List ℕ) (i keeping : ℕ) (Rest : ℕ → List Copy → List Copy → Type 0) : Type 0 where
  pub past : List Copy
  pub extra : ℕ
  pub copies : List Copy
  pub marks : (b : ℕ) → has keeping b ≡ latest_keeps past b
  pub from : 3 ≤ i
  pub few : extra + 3 ≤ i
  pub left : copies ≡ copies_from (program_in t) extra past (drop i q)
  pub rest : Rest extra past copies

pub copies_start : (t : ProgramTable) (q : List ℕ) (Rest : ℕ → List Copy → List Copy → Type 0) → Rest 0 [] (unfolded_in t q).copies → CopiesLeft t q 3 0 Rest
unfolding unfolded_in unfolded latest_keeps
copies_start t q Rest r = record { past = []; extra = 0; copies = (unfolded_in t q).copies; marks = zero_has; from = omega arith; few = omega arith; left = refl; rest = r }

module _ (t : ProgramTable) (q : List ℕ) (i keeping : ℕ) (Rest : ℕ → List Copy → List Copy → Type 0) (L : CopiesLeft t q i keeping Rest) where
  pub copies_end : length q ≤ i → Rest L.extra L.past []
  unfolding copies_from
  copies_end l = subst (Rest L.extra L.past) (L.left ∙ ap (copies_from (program_in t) L.extra L.past) (drop_of_length-le q l)) L.rest

  module _ (within : i < length q) where
    abbrev here : Copy
    here = copy_of t q i L.extra L.past

    abbrev behind : List Copy
    behind = copies_from (program_in t) (extra_of q i L.extra) (here ∷ L.past) (drop (i + 1) q)

    first : L.copies ≡ here ∷ behind
    unfolding copies_from again
    first = L.left ∙ ap (copies_from (program_in t) L.extra L.past) (drop-cons q i 0 within ∙ ap (λ j. get_or q i 0 ∷ drop j q) (sym (add-one i)))

    -- What holds, with the copy of entry i in front.
    pub copies_here : Rest L.extra L.past (here ∷ behind)
    copies_here = subst (Rest L.extra L.past) first L.rest

    extra_few : (more : Bool) → cond more (suc L.extra) L.extra + 3 ≤ i + 1
    extra_few true = let f = L.few in omega arith
    extra_few false = let f = L.few in omega arith

    -- One copy more.
    pub copies_turn : (a rules next : ℕ) (Rest' : ℕ → List Copy → List Copy → Type 0) → a ≡ get_or q i 0 → length here.kept ≡ rules → Marked keeping a rules next
        → ((cs : List Copy) → Rest L.extra L.past (here ∷ cs) → Rest' (extra_of q i L.extra) (here ∷ L.past) cs) → CopiesLeft t q (i + 1) next Rest'
    unfolding latest_keeps
    copies_turn a rules next Rest' e k M f =
        record {
          past = here ∷ L.past;
          extra = extra_of q i L.extra;
          copies = behind;
          marks = λ b. M.members b ∙ rw (ap (eqb b) e ∙ flip b (get_or q i 0), sym k, L.marks b) refl;
          from = let g = L.from in omega arith;
          few = extra_few (again q i);
          left = refl;
          rest = f behind copies_here;
        }
      where
        flip : (x y : ℕ) → eqb x y ≡ eqb y x
        flip x y = bool_ext (λ t. eq-eqb y x (sym (eqb-true x y t))) (λ t. eq-eqb x y (sym (eqb-true y x t)))

pub ready_below : (t : ProgramTable) (components q : List ℕ) → Ready t components q → below 64 (entries q) ≡ true
ready_below t components q R = below_more t.atoms 64 (entries q) R.readable.atoms R.low

-- The atom of an entry.
module _ (t : ProgramTable) (components q : List ℕ) (R : Ready t components q) (i : ℕ) (from : 3 ≤ i) (within : i < length q) where
  pub entry_atom : get_or q i 0 < t.atoms
  entry_atom = entry_below q i t.atoms from within R.low

  pub entry_at : EntryAt q i
  entry_at = let l = entry_atom in let n = R.readable.atoms in record { from = from; within = within; atom = omega arith }

-- The table of latest copies and the highest variable follow the copies made so far, e of which are not their atom's last.
pub record Tracks (n e : ℕ) (past : List Copy) (table : List ℕ) (highest : ℕ) : Type 0 where
  pub long : length table ≡ 64
  pub is : (b : ℕ) → b < 64 → get_or table b 0 ≡ latest past b
  pub low : (b : ℕ) → latest past b ≤ n + e
  pub reached : highest ≡ n + e

pub tracks_start : (n : ℕ) → Tracks n 0 [] (replicate 64 0) n
unfolding latest
tracks_start n = record { long = length-replicate {A = ℕ} 64 0; is = λ b l. get_or-replicate 64 b 0 0 l; low = λ b. omega arith; reached = omega arith }

-- The copy of entry i: its variable, its rules, and the tables behind it.
module _ (t : ProgramTable) (components q : List ℕ) (R : Ready t components q) (i e : ℕ) (past : List Copy) (few : e + 3 ≤ i) (within : i < length q)
    (table : List ℕ) (highest : ℕ) (T : Tracks t.atoms e past table highest) (c : EntryCopy) (M : Made q i highest c) where
  abbrev n : ℕ
  n = t.atoms

  a_low : get_or q i 0 < t.atoms
  a_low = entry_atom t components q R i (omega arith) within

  var_is : c.var ≡ variable (program_in t) e (get_or q i 0) (again q i)
  unfolding variable last program_in
  var_is = M.var ∙ ap (λ k. cond (again q i) k (suc (get_or q i 0))) (let f = T.reached in let g : suc highest ≡ t.atoms + suc e = omega arith in g)

  var_low : variable (program_in t) e (get_or q i 0) (again q i) ≤ n + extra_of q i e
  unfolding variable last program_in
  var_low = both (again q i)
    where
      both : (more : Bool) → cond more (t.atoms + suc e) (suc (get_or q i 0)) ≤ t.atoms + cond more (suc e) e
      both true = omega arith
      both false = let l = a_low in omega arith

  pub tracks_turn : Tracks n (extra_of q i e) (copy_of t q i e past ∷ past) (set table c.atom c.var) c.highest
  unfolding latest
  tracks_turn =
      record {
        long = length-set table c.atom c.var ∙ T.long;
        is = λ b l. let w = T.long in let k = M.low in
            stored table c.atom c.var b (omega arith)
            ∙ (ap (λ x. cond (eqb b x) c.var (get_or table b 0)) M.atom
            ∙ by_bool (eqb b (get_or q i 0))
            (λ y. rw (y, eq-eqb (get_or q i 0) b (sym (eqb-true b (get_or q i 0) y))) var_is)
            (λ z. rw (z, ne_eqb (get_or q i 0) b (λ g. eqb-false b (get_or q i 0) z (sym g))) (T.is b l)));
        low = λ b. by_bool (eqb (get_or q i 0) b) (λ y. rw y var_low) (λ z. rw z (let l = T.low b in let g = grows (again q i) in omega arith));
        reached = M.highest ∙ counted (again q i);
      }
    where
      grows : (more : Bool) → e ≤ cond more (suc e) e
      grows true = omega arith
      grows false = omega arith

      counted : (more : Bool) → cond more (suc highest) highest ≡ t.atoms + cond more (suc e) e
      counted true = let f = T.reached in omega arith
      counted false = T.reached

  pub var_small : c.var < 1024
  var_small = let v = var_is in let w = var_low in let g = most (again q i) in let f = R.readable.atoms in let k = R.short in omega arith
    where
      most : (more : Bool) → cond more (suc e) e ≤ suc e
      most true = omega arith
      most false = omega arith

  -- The rules of the copy, over the variables that stand in them.
  module _ (keeping : ℕ) (marks : (b : ℕ) → has keeping b ≡ latest_keeps past b) (list : List ℕ) (s : CopyStep)
      (S : Selected t components c.atom keeping list s)
      (lasts vars : List ℕ) (F : Values last lasts) (O : Overlaid s.component table lasts vars) where
    set_is : s.component ≡ get_or components (get_or q i 0) 0
    set_is = S.component ∙ ap (λ a. get_or components a 0) M.atom

    stands : (b : ℕ) → b < t.atoms → get_or vars b 0 ≡ replaced (program_in t) past (get_or q i 0) b
    unfolding replaced
    stands b l =
        let f = R.readable.atoms in
        O.is b (omega arith)
        ∙ (ap (λ (x : Bool). cond x (get_or table b 0) (get_or lasts b 0)) (ap (λ x. has x b) set_is ∙ R.grouped.members (get_or q i 0) b a_low l)
        ∙ ap₂ (λ x y. cond (same_component (program_in t) (get_or q i 0) b) x y) (T.is b (omega arith)) (F.is b (omega arith)))

    pub copy_is : copy_of t q i e past ≡ record { atom = c.atom; var = c.var; kept = bodies_by t.records t.entries vars (take s.kept list) }
    copy_is =
        let at_atom = subst (λ x. Kept t x (get_or components (get_or q i 0) 0) keeping list s.kept) M.atom
        (subst (λ x. Kept t c.atom x keeping list s.kept) set_is S.kept) in
        let bodies = kept_bodies_lem t components q R past keeping marks (get_or q i 0) a_low list s.kept at_atom vars stands in
        rw (M.atom, var_is, bodies) refl

    pub vars_small : (b : ℕ) → b < 64 → get_or vars b 0 < 1024
    unfolding last
    vars_small b l =
        subst (λ x. x < 1024) (sym (O.is b l))
        (by_bool (has s.component b)
        (λ y. rw y (let g = T.is b l in let h = T.low b in let f = R.readable.atoms in let k = R.short in omega arith))
        (λ z. rw z (let g = F.is b l in omega arith)))
