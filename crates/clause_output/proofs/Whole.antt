-- Laws of writing the clauses of the copies, and all.
use mathlib.Core.List.{List, [], ◌∷◌, ◌++◌, map, flat_map}
use mathlib.Core.Path.{◌≡◌, refl, sym, ◌∙◌, ap, subst}
use Prim.Native.Nat.{ℕ, suc, ◌+◌, ◌-◌, ◌≤◌, ◌<◌}
use native.Mathlib.Omega.{arith}
use lib.IntN.{ℤ}
use lib.ListN.{length, length-append, replicate, take}
use Rattle.asp.specs.Program.{Body}
use Rattle.unfolding.specs.Unfolded.{Copy, Unfolded, last}
use Rattle.unfolding.specs.Clauses.{copy_clauses, copies_clauses, constraint_clause, clauses, signed_words}
use Rattle.program.specs.inner.Held.{ProgramTable, table_of}
use Rattle.program.specs.declared.ProgramSize.{ProgramSize}
use Rattle.writer.specs.inner.Wrote.{Wrote}
use Rattle.writer.proofs.Writing.{Left, left_start, left_turn, left_end, left_length, left_room, wrote_append, wrote_length}
use Rattle.copies.specs.inner.Tables.{Values}
use Rattle.copies.specs.inner.Bodies.{bodies_by, kept_bodies}
use Rattle.copies.specs.inner.Made.{Made}
use Rattle.copies.specs.inner.Kept.{CopyMade}
use Rattle.copies.specs.inner.Ready.{Ready, unfolded_in}
use Rattle.copies.specs.declared.EntryCopy.{EntryCopy}
use Rattle.copies.specs.declared.CopyStep.{CopyStep}
use Rattle.copies.proofs.Keeping.{bodies_number}
use Rattle.copies.proofs.Emitting.{Emitting, emitting_start, emitting_end, emitting_var, emitting_vars, emitting_here, emitting_turn}
use Rattle.copies.proofs.Sizes.{copies_number, rules_short, constraints_by_last}
use Rattle.rule_clauses.proofs.Rule.{signed_append}
use Rattle.copy_clauses.specs.inner.Ends.{copy_clause_words, CopyReady, CopyPut}
use Rattle.copy_clauses.specs.declared.Ends.{Ends}
use Rattle.clause_output.specs.inner.Words.{copies_clause_words, backs_words, CopiesReady}

-- The clauses of the copies that are left, and how many rules have a variable.
pub record ClausesLeft (old ws cur : List ℤ) (E : Ends) (copies : List Copy) : Type 0 where
  pub few : E.rule + length (kept_bodies copies) ≤ 123521
  pub rest : Left old 0 ws cur E.at (signed_words (copies_clauses E.rule copies))

-- The loop over the copies, with what was asked for.
pub record ClausesWritten (t : ProgramTable) (components q lasts : List ℕ) (old : List ℤ)
    (i keeping : ℕ) (list latest : List ℕ) (highest : ℕ) (cur : List ℤ) (E : Ends) : Type 0 where
  pub ready : Ready t components q
  pub asked : CopiesReady (unfolded_in t q) lasts old
  pub emitting : Emitting t q i keeping list latest highest (ClausesLeft old (copies_clause_words (unfolded_in t q)) cur E)

module _ (size : ProgramSize) (records program components q lasts : List ℕ) (old : List ℤ) where
  abbrev t : ProgramTable
  t = table_of size records program

  abbrev total : List ℤ
  total = copies_clause_words (unfolded_in t q)

  pub copies_start : Ready (table_of size records program) components q → CopiesReady (unfolded_in (table_of size records program) q) lasts old
      → ClausesWritten (table_of size records program) components q lasts old 3 0 (replicate 192 0) (replicate 64 0) size.atoms old (record { at = 0; rule = length q - 2 })
  unfolding copies_clause_words
  copies_start R A =
      let k = copies_number t components q R in
      let l = R.long in
      let s = R.short in
      let g = rules_short t components q R in
      let e : length q - 2 ≡ suc (length (unfolded_in t q).copies) = omega arith in
      record {
        ready = R;
        asked = A;
        emitting = emitting_start t components q R (ClausesLeft old total old (record { at = 0; rule = length q - 2 }))
            (record { few = omega arith; rest = left_start old 0 total _ (ap (λ d. signed_words (copies_clauses d (unfolded_in t q).copies)) e) });
      }

  module _ (i keeping : ℕ) (before latest : List ℕ) (highest : ℕ) (cur : List ℤ) (E : Ends)
      (W : ClausesWritten (table_of size records program) components q lasts old i keeping before latest highest cur E) where
    abbrev Rest : List Copy → Type 0
    Rest = ClausesLeft old total cur E

    pub copies_length : length cur ≡ length old
    copies_length = left_length old 0 total cur _ E.at W.emitting.left.rest.rest.rest

    pub copies_end : length q ≤ i → Wrote old 0 (copies_clause_words (unfolded_in (table_of size records program) q)) cur E.at
    unfolding copies_clauses signed_words flat_map
    copies_end l = left_end old 0 total cur [] E.at (emitting_end t components q W.ready i keeping before latest highest Rest W.emitting l).rest refl

    module _ (within : i < length q) where
      module _ (c : EntryCopy) (M : Made q i highest c) (list after vars : List ℕ) (r : CopyStep)
          (N : CopyMade (table_of size records program) components latest lasts c keeping list after vars r) where
        abbrev listed : List ℕ
        listed = take r.kept list

        abbrev bodies : List Body
        bodies = bodies_by records program vars listed

        abbrev copy : Copy
        copy = record { atom = c.atom; var = c.var; kept = bodies }

        abbrev here : List ℤ
        here = copy_clause_words records program vars E.rule c.var listed

        step : (cs : List Copy) → signed_words (copies_clauses E.rule (copy ∷ cs)) ≡ here ++ signed_words (copies_clauses (E.rule + length listed) cs)
        unfolding copies_clauses copy_clauses copy_clause_words
        step cs =
            signed_append (copy_clauses E.rule copy) (copies_clauses (E.rule + length bodies) cs)
            ∙ ap (λ n. here ++ signed_words (copies_clauses (E.rule + n) cs)) (bodies_number records program vars listed)

        pub copies_ready : CopyReady records program vars lasts E c.var (take r.kept list) cur
        copies_ready =
            let S = emitting_here t components q W.ready i keeping before latest highest Rest W.emitting within c M lasts list after vars r N W.asked.by_last in
            let v = emitting_var t components q W.ready i keeping before latest highest Rest W.emitting within c M in
            let f = W.emitting.left.rest.rest.few in
            let h = W.asked.room in
            record {
              small = record { low = λ b l. let s = emitting_vars t components q W.ready i keeping before latest highest Rest W.emitting within c M lasts list after vars r N W.asked.by_last b l in omega arith };
              by_last = W.asked.by_last;
              inside = N.selected.kept.inside;
              var = omega arith;
              rule = omega arith;
              room = left_room old 0 total cur here _ _ E.at S.holds.rest (step S.copies) (let l : 0 + length total ≤ length old = omega arith in l);
            }

        pub copies_turn : (new : List ℤ) (E' : Ends)
            → CopyPut records program vars E c.var (take r.kept list) cur new E'
            → ClausesWritten (table_of size records program) components q lasts old (i + 1) r.keeping list after c.highest new E'
        unfolding flat_map
        copies_turn new E' P =
            record {
              ready = W.ready;
              asked = W.asked;
              emitting = emitting_turn t components q W.ready i keeping before latest highest Rest W.emitting within c M lasts list after vars r N W.asked.by_last (ClausesLeft old total new E') one;
            }
          where
            counted : (cs : List Copy) → length (kept_bodies (copy ∷ cs)) ≡ length listed + length (kept_bodies cs)
            counted cs = let e = length-append bodies (kept_bodies cs) in let f = bodies_number records program vars listed in omega arith

            one : (cs : List Copy) → ClausesLeft old total cur E (copy ∷ cs) → ClausesLeft old total new E' cs
            one cs L =
                record {
                  few = let l = L.few in let v = P.rule in let e = counted cs in omega arith;
                  rest = subst (λ d. Left old 0 total new E'.at (signed_words (copies_clauses d cs))) (sym P.rule)
                      (left_turn old 0 total cur new here _ _ E.at E'.at L.rest (step cs) P.wrote);
                }

-- All clauses.
module _ (size : ProgramSize) (records program components q lasts : List ℕ) (R : Ready (table_of size records program) components q) (F : Values last lasts) (old : List ℤ) where
  abbrev u : Unfolded
  u = unfolded_in (table_of size records program) q

  abbrev backs : List ℤ
  backs = backs_words records program lasts size.rules (size.rules + size.constraints)

  all_are : signed_words (clauses u) ≡ copies_clause_words u ++ backs
  unfolding clauses copies_clause_words backs_words
  all_are =
      signed_append (copies_clauses (suc (length u.copies)) u.copies) (map constraint_clause u.constraints)
      ∙ sym (ap (λ bs. copies_clause_words u ++ signed_words (map constraint_clause bs)) (constraints_by_last (table_of size records program) components q R lasts F))

  module _ (room : length (signed_words (clauses (unfolded_in (table_of size records program) q))) ≤ length old) where
    all_size : length (copies_clause_words u) + length backs ≤ length old
    all_size = let e = ap length all_are ∙ length-append (copies_clause_words u) backs in omega arith

    pub all_first : CopiesReady (unfolded_in (table_of size records program) q) lasts old
    all_first = record { by_last = F; room = let e = all_size in omega arith }

    pub all_second : (mid : List ℤ) (at : ℕ) → Wrote old 0 (copies_clause_words (unfolded_in (table_of size records program) q)) mid at
        → at + length (backs_words records program lasts size.rules (size.rules + size.constraints)) ≤ length mid
    all_second mid at W = let e = all_size in let m = W.moved in let n = wrote_length _ _ _ _ _ W in omega arith

  pub all_wrote : (mid new : List ℤ) (at r : ℕ) → Wrote old 0 (copies_clause_words (unfolded_in (table_of size records program) q)) mid at
      → Wrote mid at (backs_words records program lasts size.rules (size.rules + size.constraints)) new r → Wrote old 0 (signed_words (clauses (unfolded_in (table_of size records program) q))) new r
  all_wrote mid new at r W K = subst (λ ws. Wrote old 0 ws new r) (sym all_are) (wrote_append _ _ _ _ _ _ _ _ W K)
