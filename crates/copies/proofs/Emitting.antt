-- The loop of an emitter over the entries of a sequence, for any rest that it still has to write.
use mathlib.Core.List.{List, [], ◌∷◌}
use mathlib.Core.Path.{◌≡◌, ◌∙◌, ap, subst}
use Prim.Native.Nat.{ℕ, ◌+◌, ◌≤◌, ◌<◌}
use native.Mathlib.Omega.{arith}
use lib.ListN.{length, get_or, take, replicate, length-replicate}
use lib.Seq.{length-take-le}
use Rattle.unfolding.specs.Unfolded.{Copy, last}
use Rattle.program.specs.inner.Held.{ProgramTable}
use Rattle.copies.specs.inner.Tables.{Values}
use Rattle.copies.specs.inner.Bodies.{bodies_by}
use Rattle.copies.specs.inner.Made.{EntryAt, Made}
use Rattle.copies.specs.inner.Kept.{CopyMade}
use Rattle.copies.specs.inner.Ready.{Ready, unfolded_in}
use Rattle.copies.specs.declared.EntryCopy.{EntryCopy}
use Rattle.copies.specs.declared.CopyStep.{CopyStep}
use Rattle.copies.proofs.Keeping.{bodies_number}
use Rattle.copies.proofs.Going.{copy_of, CopiesLeft, copies_start, copies_here, copies_turn, copies_end, entry_at, Tracks, tracks_start, tracks_turn, copy_is, var_small, vars_small}

-- The tables follow the copies made so far, and what holds of the copies that are left.
pub record Tracked (n : ℕ) (latest : List ℕ) (highest : ℕ) (Rest : List Copy → Type 0) (extra : ℕ) (past copies : List Copy) : Type 0 where
  pub tracks : Tracks n extra past latest highest
  pub rest : Rest copies

pub record Emitting (t : ProgramTable) (q : List ℕ) (i keeping : ℕ) (list latest : List ℕ) (highest : ℕ) (Rest : List Copy → Type 0) : Type 0 where
  pub left : CopiesLeft t q i keeping (Tracked t.atoms latest highest Rest)
  pub long : length list ≡ 192

-- Some copies are left of which it holds.
pub record Some (Rest : List Copy → Type 0) : Type 0 where
  pub copies : List Copy
  pub holds : Rest copies

module _ (t : ProgramTable) (components q : List ℕ) (R : Ready t components q) where
  pub emitting_start : (Rest : List Copy → Type 0) → Rest (unfolded_in t q).copies → Emitting t q 3 0 (replicate 192 0) (replicate 64 0) t.atoms Rest
  emitting_start Rest r =
      record {
        left = copies_start t q (Tracked t.atoms (replicate 64 0) t.atoms Rest) (record { tracks = tracks_start t.atoms; rest = r });
        long = length-replicate {A = ℕ} 192 0;
      }

  module _ (i keeping : ℕ) (before latest : List ℕ) (highest : ℕ) (Rest : List Copy → Type 0) (E : Emitting t q i keeping before latest highest Rest) where
    pub emitting_end : length q ≤ i → Rest []
    emitting_end l = (copies_end t q i keeping (Tracked t.atoms latest highest Rest) E.left l).rest

    module _ (within : i < length q) where
      pub emitting_entry : EntryAt q i
      emitting_entry = entry_at t components q R i E.left.from within

      pub emitting_highest : highest < 4294967295
      emitting_highest = let f = E.left.rest.tracks.reached in let g = E.left.few in let a = R.readable.atoms in let s = R.short in omega arith

      module _ (c : EntryCopy) (M : Made q i highest c) where
        pub emitting_var : c.var < 1024
        emitting_var = var_small t components q R i E.left.extra E.left.past E.left.few within latest highest E.left.rest.tracks c M

        module _ (lasts list after vars : List ℕ) (s : CopyStep)
            (N : CopyMade t components latest lasts c keeping list after vars s) (F : Values last lasts) where
          abbrev ls : List ℕ
          ls = take s.kept list

          abbrev copy : Copy
          copy = record { atom = c.atom; var = c.var; kept = bodies_by t.records t.entries vars ls }

          same : copy_of t q i E.left.extra E.left.past ≡ copy
          same = copy_is t components q R i E.left.extra E.left.past E.left.few within latest highest E.left.rest.tracks c M keeping E.left.marks list s N.selected lasts vars F N.overlaid

          pub emitting_number : length (take s.kept list) ≡ s.kept
          emitting_number = length-take-le s.kept list (let l = N.selected.kept.long in let f = N.selected.kept.few in omega arith)

          pub emitting_vars : (b : ℕ) → b < 64 → get_or vars b 0 < 1024
          emitting_vars = vars_small t components q R i E.left.extra E.left.past E.left.few within latest highest E.left.rest.tracks c M keeping E.left.marks list s N.selected lasts vars F N.overlaid

          -- What holds, with the copy in front.
          pub emitting_here : Some (λ cs. Rest (copy ∷ cs))
          emitting_here = some _ (copies_here t q i keeping (Tracked t.atoms latest highest Rest) E.left within).rest
            where
              some : (cs : List Copy) → Rest (copy_of t q i E.left.extra E.left.past ∷ cs) → Some (λ cs. Rest (copy ∷ cs))
              some cs h = record { copies = cs; holds = subst (λ d. Rest (d ∷ cs)) same h }

          number : length (copy_of t q i E.left.extra E.left.past).kept ≡ s.kept
          number = ap (λ (d : Copy). length d.kept) same ∙ (bodies_number t.records t.entries vars ls ∙ emitting_number)

          -- One copy more.
          pub emitting_turn : (Rest' : List Copy → Type 0) → ((cs : List Copy) → Rest (copy ∷ cs) → Rest' cs)
              → Emitting t q (i + 1) s.keeping list after c.highest Rest'
          emitting_turn Rest' f =
              record {
                left = copies_turn t q i keeping (Tracked t.atoms latest highest Rest) E.left within c.atom s.kept s.keeping (Tracked t.atoms after c.highest Rest') M.atom number N.selected.marked
                    (λ cs T. record {
                      tracks = rw N.is_latest (tracks_turn t components q R i E.left.extra E.left.past E.left.few within latest highest E.left.rest.tracks c M);
                      rest = f cs (subst (λ d. Rest (d ∷ cs)) same T.rest);
                    });
                long = N.selected.kept.long;
              }
