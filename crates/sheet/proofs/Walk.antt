-- Laws of walks over the records of a sheet that has passed questions 1 to 6.
use mathlib.Core.Bool.{true}
use mathlib.Core.List.Memᴰ
use mathlib.Core.List.{List, Memᴰ}
use mathlib.Core.Logic.{⊎_elim}
use mathlib.Core.Path.{◌≡◌, refl, sym, ◌∙◌, ap, subst}
use Prim.Native.Nat.{ℕ, zero, suc, ◌≤◌, ◌<◌}
use native.Mathlib.Numerals.{sub-one}
use native.Mathlib.Omega.{arith}
use borrow.Author.Tests.{leb-true}
use lib.Dec.{leb}
use lib.ListN.{length}
use Rattle.lists.specs.Lists.{below}
use Rattle.lists.proofs.Bools.{and_intro, and_left, and_right}
use Rattle.asp.specs.Program.{body_below}
use Rattle.sheet.specs.Questions.{first_refusal}
use Rattle.sheet.specs.Format.{end, pos_of, neg_of, complete, kind_passes, rising, list_fits, lists_fit, limited, opens, measured, record_questions, records_questions, form_questions, atoms_byte, records_byte}
use Rattle.sheet.specs.inner.Walk.{record_refusal, records_refusal, form_refusal, Known, Walk, Stepped, Sound, AllSound}
use Rattle.sheet.specs.Sheet.{Record, record_at, records_from, records}
use Rattle.sheet.specs.declared.Limits.{Limits}
use Rattle.sheet.proofs.Questions.{asked_yes, then_passed, first_append}
use Rattle.sheet.proofs.Records.{complete_out}

known : (n : ℕ) (s : List ℕ) (at : ℕ) → record_refusal n s at ≡ 0 → Known s n at
unfolding record_questions first_refusal
known n s at e =
    let a = asked_yes (complete s at) 4 _ (λ e. omega arith) e in
    let b = asked_yes (kind_passes n s at) 5 _ (λ e. omega arith) a.1 in
    record { whole = complete_out s at a.0; kinds = b.0; lists = (asked_yes (lists_fit n s at) 6 0 (λ e. omega arith) b.1).0 }

-- The first record of a walk has passed, and so have those behind it.
parted : (s : List ℕ) (n left at : ℕ) → Walk s n (suc left) at → (record_refusal n s at ≡ 0) × (records_refusal left n s (end s at) ≡ 0)
unfolding records_questions
parted s n left at W =
    then_passed (record_refusal n s at) (records_refusal left n s (end s at))
    (sym (first_append (record_questions n s at) (records_questions left n s (end s at))) ∙ W.passed)

stepped : (s : List ℕ) (n left at : ℕ) → Walk s n left at → 0 < left → Stepped s n left at (end s at)
unfolding records_from
stepped s n zero at W l = absurd (omega arith)
stepped s n (suc left) at W l =
    let p = parted s n left at W in
    record { is = refl; known = known n s at p.0; rest = rw (sub-one (suc left)) (record { passed = p.1 }); list = rw (sub-one (suc left)) refl }

pub walk_inside : (s : List ℕ) (n left at : ℕ) → Walk s n left at → 0 < left → at < length s
walk_inside s n left at W l = (stepped s n left at W l).known.whole.starts

pub walk_known : (s : List ℕ) (n left at : ℕ) → Walk s n left at → 0 < left → Known s n at
walk_known s n left at W l = (stepped s n left at W l).known

pub walk_step : (s : List ℕ) (n left at r : ℕ) → Walk s n left at → 0 < left → r ≡ end s at → Stepped s n left at r
walk_step s n left at r W l e = subst (Stepped s n left at) (sym e) (stepped s n left at W l)

-- What an accepted form is known by.
pub record Formed (L : Limits) (s : List ℕ) : Type 0 where
  pub long : 5 ≤ length s
  pub atoms : atoms_byte s ≤ L.atoms
  pub count : records_byte s ≤ L.records
  pub walk : Walk s (atoms_byte s) (records_byte s) 5

pub formed : (L : Limits) (s : List ℕ) → form_refusal L s ≡ 0 → Formed L s
unfolding form_questions first_refusal opens limited
formed L s e =
    let a = asked_yes (opens s) 1 _ (λ e. omega arith) e in
    let b = asked_yes (measured s) 2 _ (λ e. omega arith) a.1 in
    let c = asked_yes (limited L s) 3 _ (λ e. omega arith) b.1 in
    record {
      long = leb-true 5 (length s) (and_left (leb 5 (length s)) _ a.0);
      atoms = leb-true (atoms_byte s) L.atoms (and_left (leb (atoms_byte s) L.atoms) (leb (records_byte s) L.records) c.0);
      count = leb-true (records_byte s) L.records (and_right (leb (atoms_byte s) L.atoms) (leb (records_byte s) L.records) c.0);
      walk = record { passed = c.1 };
    }

-- What is known of a record's two lists: they rise strictly, below n.
pub record Ordered (n : ℕ) (r : Record) : Type 0 where
  pub pos : list_fits n r.body.pos ≡ true
  pub neg : list_fits n r.body.neg ≡ true

ordered : (s : List ℕ) (n at : ℕ) → Known s n at → Ordered n (record_at s at)
unfolding record_at lists_fit
ordered s n at K =
    record {
      pos = and_left (list_fits n (pos_of s at)) (list_fits n (neg_of s at)) K.lists;
      neg = and_right (list_fits n (pos_of s at)) (list_fits n (neg_of s at)) K.lists;
    }

-- So they name atoms below n.
sound : (s : List ℕ) (n at : ℕ) → Known s n at → Sound n (record_at s at)
unfolding record_at kind_passes list_fits body_below
sound s n at K =
    let O = ordered s n at K in
    record {
      kinds = K.kinds;
      atoms = and_intro (and_left (below n (pos_of s at)) (rising (pos_of s at)) O.pos) (and_left (below n (neg_of s at)) (rising (neg_of s at)) O.neg);
    }

-- What holds of every known record holds of the records of a walk.
walk_all : (Q : Record → Type 0) (s : List ℕ) (n : ℕ) → ((at : ℕ) → Known s n at → Q (record_at s at))
    → (left at : ℕ) → Walk s n left at → (r : Record) → Memᴰ r (records_from left s at) → Q r
unfolding records_from
walk_all Q s n h zero at W r m = absurd (Memᴰ.not-nil m)
walk_all Q s n h (suc left) at W r m =
    let p = parted s n left at W in
    ⊎_elim (λ e. subst Q (sym e) (h at (known n s at p.0))) (λ k. walk_all Q s n h left (end s at) (record { passed = p.1 }) r k)
    (Memᴰ.cases_cons m)

records_count : (k : ℕ) (s : List ℕ) (at : ℕ) → length (records_from k s at) ≡ k
unfolding records_from
records_count zero s at = refl
records_count (suc k) s at = ap suc (records_count k s (end s at))

module _ (L : Limits) (s : List ℕ) (e : form_refusal L s ≡ 0) where
  pub records_sound : AllSound (atoms_byte s) (records s)
  unfolding records
  records_sound = walk_all (Sound (atoms_byte s)) s (atoms_byte s) (sound s (atoms_byte s)) (records_byte s) 5 (formed L s e).walk

  pub records_ordered : (r : Record) → Memᴰ r (records s) → Ordered (atoms_byte s) r
  unfolding records
  records_ordered = walk_all (Ordered (atoms_byte s)) s (atoms_byte s) (ordered s (atoms_byte s)) (records_byte s) 5 (formed L s e).walk

  pub records_few : length (records s) ≤ L.records
  unfolding records
  records_few = omega (arith, records_count (records_byte s) s 5, (formed L s e).count)
