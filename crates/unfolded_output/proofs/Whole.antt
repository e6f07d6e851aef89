-- Laws of writing the copies, the constraints and the whole unfolded program.
use mathlib.Core.List.{List, [], ◌∷◌, ◌++◌, flat_map}
use mathlib.Core.Path.{◌≡◌, refl, sym, ap, ap₂, subst}
use Prim.Native.Nat.{ℕ, ◌+◌, ◌-◌, ◌≤◌, ◌<◌}
use native.Mathlib.Omega.{arith}
use lib.ListN.{length, length-append, replicate, take}
use Rattle.lists.specs.Lists.{range}
use Rattle.asp.specs.Program.{Body}
use Rattle.unfolding.specs.Unfolded.{Copy, Unfolded, last, body_words, copy_words, words}
use Rattle.program.specs.inner.Held.{table_rule, ProgramTable, table_of}
use Rattle.program.specs.declared.ProgramSize.{ProgramSize}
use Rattle.program.specs.declared.TableRule.{TableRule}
use Rattle.writer.specs.inner.Wrote.{Wrote}
use Rattle.writer.proofs.Writing.{Left, left_start, left_turn, left_end, left_length, left_room, wrote_append, wrote_length}
use Rattle.writer.proofs.Loops.{flat_map_map, RangeLeft, range_turn, range_room, range_end}
use Rattle.copies.specs.inner.Tables.{Values}
use Rattle.copies.specs.inner.Bodies.{entry_body, bodies_by, body_atoms}
use Rattle.copies.specs.inner.Made.{Made}
use Rattle.copies.specs.inner.Kept.{CopyMade}
use Rattle.copies.specs.inner.Ready.{Ready, unfolded_in}
use Rattle.copies.specs.declared.EntryCopy.{EntryCopy}
use Rattle.copies.specs.declared.CopyStep.{CopyStep}
use Rattle.copies.proofs.Keeping.{bodies_number}
use Rattle.copies.proofs.Emitting.{Emitting, emitting_start, emitting_end, emitting_here, emitting_turn}
use Rattle.copies.proofs.Sizes.{copies_number, constraints_by_last, constraints_number}
use Rattle.body_words.specs.inner.Words.{rule_body_words}
use Rattle.body_words.proofs.Body.{body_size}
use Rattle.copy_words.specs.inner.Words.{bodies_words, listed_words, kept_words, CopyReady}
use Rattle.unfolded_output.specs.inner.Words.{entries_words, copies_words, CopiesReady}

-- The bodies of the entries from .. to - 1.
abbrev pub EntriesLeft : List ℕ → List ℕ → List ℕ → List ℕ → ℕ → ℕ → ℕ → List ℕ → ℕ → ℕ → Type 0
EntriesLeft t p vars = RangeLeft (λ j. rule_body_words vars (table_rule t p j))

module _ (t p vars old : List ℕ) (at from to : ℕ) where
  abbrev f : ℕ → List ℕ
  f j = rule_body_words vars (table_rule t p j)

  entries_are : flat_map f (range from (to - from)) ≡ entries_words t p vars from to
  unfolding entries_words bodies_words entry_body rule_body_words
  entries_are = sym (flat_map_map body_words (entry_body t p vars) (range from (to - from)))

  module _ (cur : List ℕ) (next j : ℕ) (L : EntriesLeft t p vars old at from to cur next j) where
    module _ (lt : j < to) (r : TableRule) (R : r ≡ table_rule t p j) where
      pub entries_room : at + length (entries_words t p vars from to) ≤ length old → next + 2 + body_atoms r ≤ length cur
      entries_room h =
          let e = range_room f old at from to cur next j L lt (subst (λ ws. at + length ws ≤ length old) (sym entries_are) h) in
          let s = ap (λ x. length (rule_body_words vars x)) R in
          let b = body_size vars r in
          omega arith

      pub entries_turn : (new : List ℕ) (behind : ℕ) → Wrote cur next (rule_body_words vars r) new behind → EntriesLeft t p vars old at from to new behind (j + 1)
      entries_turn new behind W = range_turn f old at from to cur next j L lt new behind (subst (λ x. Wrote cur next (rule_body_words vars x) new behind) R W)

    pub entries_end : to ≤ j → Wrote old at (entries_words t p vars from to) cur next
    entries_end l = subst (λ ws. Wrote old at ws cur next) entries_are (range_end f old at from to cur next j L l)

-- The words of the copies that are left.
pub record WordsLeft (old : List ℕ) (at : ℕ) (ws cur : List ℕ) (next : ℕ) (copies : List Copy) : Type 0 where
  pub rest : Left old at ws cur next (flat_map copy_words copies)

-- The loop over the copies, with what was asked for.
pub record CopiesWritten (t : ProgramTable) (components q lasts old : List ℕ)
    (i keeping : ℕ) (list latest : List ℕ) (highest : ℕ) (cur : List ℕ) (next : ℕ) : Type 0 where
  pub ready : Ready t components q
  pub asked : CopiesReady (unfolded_in t q) lasts old
  pub emitting : Emitting t q i keeping list latest highest (WordsLeft old 1 (copies_words (unfolded_in t q)) cur next)

module _ (size : ProgramSize) (records program components q lasts old : List ℕ) where
  abbrev t : ProgramTable
  t = table_of size records program

  abbrev total : List ℕ
  total = copies_words (unfolded_in t q)

  pub copies_start : Ready (table_of size records program) components q → CopiesReady (unfolded_in (table_of size records program) q) lasts old
      → CopiesWritten (table_of size records program) components q lasts old 3 0 (replicate 192 0) (replicate 64 0) size.atoms old 1
  unfolding copies_words
  copies_start R A =
      record { ready = R; asked = A; emitting = emitting_start t components q R (WordsLeft old 1 total old 1) (record { rest = left_start old 1 total _ refl }) }

  module _ (i keeping : ℕ) (before latest : List ℕ) (highest : ℕ) (cur : List ℕ) (next : ℕ)
      (W : CopiesWritten (table_of size records program) components q lasts old i keeping before latest highest cur next) where
    abbrev Rest : List Copy → Type 0
    Rest = WordsLeft old 1 total cur next

    pub copies_length : length cur ≡ length old
    copies_length = left_length old 1 total cur _ next W.emitting.left.rest.rest.rest

    pub copies_end : length q ≤ i → Wrote old 1 (copies_words (unfolded_in (table_of size records program) q)) cur next
    unfolding flat_map
    copies_end l = left_end old 1 total cur [] next (emitting_end t components q W.ready i keeping before latest highest Rest W.emitting l).rest refl

    module _ (within : i < length q) where
      module _ (c : EntryCopy) (M : Made q i highest c) (list after vars : List ℕ) (r : CopyStep)
          (N : CopyMade (table_of size records program) components latest lasts c keeping list after vars r) where
        abbrev listed : List ℕ
        listed = take r.kept list

        abbrev here : List ℕ
        here = kept_words records program vars c.var listed

        step : (cs : List Copy) → flat_map copy_words (record { atom = c.atom; var = c.var; kept = bodies_by records program vars listed } ∷ cs) ≡ here ++ flat_map copy_words cs
        unfolding flat_map copy_words kept_words listed_words bodies_words
        step cs =
            ap (λ n. (c.var ∷ n ∷ listed_words records program vars listed) ++ flat_map copy_words cs) (bodies_number records program vars listed)

        pub copies_ready : CopyReady records program vars lasts next c.var (take r.kept list) cur
        copies_ready =
            let S = emitting_here t components q W.ready i keeping before latest highest Rest W.emitting within c M lasts list after vars r N W.asked.by_last in
            record {
              by_last = W.asked.by_last;
              inside = N.selected.kept.inside;
              room = left_room old 1 total cur here _ _ next S.holds.rest (step S.copies) W.asked.room;
            }

        pub copies_turn : (new : List ℕ) (behind : ℕ) → Wrote cur next (kept_words records program vars c.var (take r.kept list)) new behind
            → CopiesWritten (table_of size records program) components q lasts old (i + 1) r.keeping list after c.highest new behind
        copies_turn new behind U =
            record {
              ready = W.ready;
              asked = W.asked;
              emitting = emitting_turn t components q W.ready i keeping before latest highest Rest W.emitting within c M lasts list after vars r N W.asked.by_last (WordsLeft old 1 total new behind)
                  (λ cs L. record { rest = left_turn old 1 total cur new here _ _ next behind L.rest (step cs) U });
            }

-- The whole.
module _ (size : ProgramSize) (records program components q lasts : List ℕ) (R : Ready (table_of size records program) components q) (F : Values last lasts) (old : List ℕ) where
  abbrev u : Unfolded
  u = unfolded_in (table_of size records program) q

  abbrev constraints : List ℕ
  constraints = entries_words records program lasts size.rules (size.rules + size.constraints)

  whole_is : words u ≡ (length q - 3) ∷ (copies_words u ++ (size.constraints ∷ constraints))
  unfolding words copies_words entries_words bodies_words
  whole_is =
      ap₂ (λ k ws. k ∷ (flat_map copy_words u.copies ++ ws)) (copies_number (table_of size records program) components q R)
      (ap₂ (λ k (bs : List Body). k ∷ flat_map body_words bs) (sym (constraints_number (table_of size records program) components q R)) (sym (constraints_by_last (table_of size records program) components q R lasts F)))

  module _ (room : length (words (unfolded_in (table_of size records program) q)) ≤ length old) where
    whole_size : 1 + length (copies_words u) + 1 + length constraints ≤ length old
    whole_size = let e = ap length whole_is in let f = length-append (copies_words u) (size.constraints ∷ constraints) in omega arith

    pub whole_first : 0 < length old
    whole_first = let e = whole_size in omega arith

    module _ (o₁ : List ℕ) (first : ℕ) (W₁ : Wrote old 0 ((length q - 3) ∷ []) o₁ first) where
      pub whole_copies : CopiesReady (unfolded_in (table_of size records program) q) lasts o₁
      whole_copies = record { by_last = F; room = let e = whole_size in let n = wrote_length _ _ _ _ _ W₁ in omega arith }

      module _ (o₂ : List ℕ) (behind : ℕ) (W₂ : Wrote o₁ 1 (copies_words (unfolded_in (table_of size records program) q)) o₂ behind) where
        pub whole_number : behind < length o₂
        whole_number = let e = whole_size in let m = W₂.moved in let n = wrote_length _ _ _ _ _ W₁ in let k = wrote_length _ _ _ _ _ W₂ in omega arith

        pub whole_constraints : (o₃ : List ℕ) (next : ℕ) → Wrote o₂ behind (size.constraints ∷ []) o₃ next
            → next + length (entries_words records program lasts size.rules (size.rules + size.constraints)) ≤ length o₃
        whole_constraints o₃ next W₃ =
            let e = whole_size in let m = W₂.moved in let l = W₃.moved in let n = wrote_length _ _ _ _ _ W₁ in let k = wrote_length _ _ _ _ _ W₂ in let j = wrote_length _ _ _ _ _ W₃ in omega arith

  pub words_wrote : (o₁ o₂ o₃ new : List ℕ) (first behind next end : ℕ) → Wrote old 0 ((length q - 3) ∷ []) o₁ first
      → Wrote o₁ 1 (copies_words (unfolded_in (table_of size records program) q)) o₂ behind → Wrote o₂ behind (size.constraints ∷ []) o₃ next
      → Wrote o₃ next (entries_words records program lasts size.rules (size.rules + size.constraints)) new end
      → Wrote old 0 (words (unfolded_in (table_of size records program) q)) new end
  words_wrote o₁ o₂ o₃ new first behind next end W₁ W₂ W₃ W₄ =
      let m = W₁.moved in
      let at_first = subst (λ k. Wrote o₁ k (copies_words u) o₂ behind) (let e : 1 ≡ first = omega arith in e) W₂ in
      subst (λ ws. Wrote old 0 ws new end) (sym whole_is) (wrote_append _ _ _ _ _ _ _ _ W₁ (wrote_append _ _ _ _ _ _ _ _ at_first (wrote_append _ _ _ _ _ _ _ _ W₃ W₄)))
