-- Laws of writing the words of one body.
use mathlib.Core.Bool.{Bool, true}
use mathlib.Core.List.{List, [], ◌∷◌, ◌++◌, map, map-append, append_assoc, flat_map}
use mathlib.Core.Path.{◌≡◌, refl, sym, ◌∙◌, ap, ap₂, subst}
use Prim.Native.Nat.{ℕ, zero, suc, ◌+◌, ◌-◌, ◌≤◌, ◌<◌}
use native.Mathlib.Omega.{arith}
use borrow.Rule.Slice.PartMut.{put_mid, Post-is}
use lib.ListN.{length, length-append, length-map, get_or, take, drop}
use lib.Seq.{drop-cons, sets-eq}
use Rattle.lists.specs.Lists.{range}
use Rattle.lists.proofs.Nodup.{length_range}
use Rattle.unfolding.specs.Unfolded.{last, renamed, body_words}
use Rattle.bits.specs.inner.Sets.{Size}
use Rattle.bits.specs.inner.Visited.{listed, Lowest, Rest, HasRun, WithoutRun}
use Rattle.bits.proofs.Visiting.{listed_lowest}
use Rattle.bits.proofs.Runs.{run_length}
use Rattle.program.specs.inner.Held.{added_atom, body_of}
use Rattle.program.specs.declared.TableRule.{TableRule}
use Rattle.writer.specs.inner.Wrote.{Wrote}
use Rattle.writer.proofs.Writing.{wrote_append}
use Rattle.writer.proofs.Loops.{flat_map_one, SetLeft, set_turn, set_room, set_run_turn, set_run_room, set_end}
use Rattle.copies.specs.inner.Tables.{Values}
use Rattle.copies.specs.inner.Bodies.{body_by, negative_atoms, body_atoms}
use Rattle.copies.proofs.Tables.{listed_last}
use Rattle.body_words.specs.inner.Words.{eight_words, rule_body_words, SetWrote, AddedWrote}

-- The variables of a set's atoms.
abbrev pub VarsLeft : List ℕ → List ℕ → ℕ → ℕ → List ℕ → ℕ → ℕ → Type 0
VarsLeft vars = SetLeft (λ b. get_or vars b 0 ∷ [])

module _ (vars old : List ℕ) (at x : ℕ) where
  set_size : length (flat_map (λ b. get_or vars b 0 ∷ []) (listed x)) ≡ length (listed x)
  set_size = ap length (flat_map_one (λ b. get_or vars b 0) (listed x)) ∙ length-map (listed x) (λ b. get_or vars b 0)

  module _ (cur : List ℕ) (next left : ℕ) (S : VarsLeft vars old at x cur next left) where
    pub vars_room : (a : ℕ) → 0 < left → Lowest left a → at + length (listed x) ≤ length old → next < length cur
    vars_room a p L h =
        let k = set_size in
        let e = set_room (λ b. get_or vars b 0 ∷ []) old at x cur next left S a p L (let l : at + length (flat_map (λ b. get_or vars b 0 ∷ []) (listed x)) ≤ length old = omega arith in l) in
        omega arith

    pub vars_turn : (a r : ℕ) → Lowest left a → Rest left r → (new : List ℕ) (behind : ℕ) → Wrote cur next (get_or vars a 0 ∷ []) new behind → VarsLeft vars old at x new behind r
    vars_turn a r L R new behind W = set_turn (λ b. get_or vars b 0 ∷ []) old at x cur next left S a r L R new behind W

    -- Eight in a row are written at once.
    module _ (a r : ℕ) (b : Bool) (L : Lowest left a) (H : HasRun left a 8 b) (t : b ≡ true) (W : WithoutRun left a 8 r) where
      pub run_room : at + length (listed x) ≤ length old → next + 8 ≤ length cur
      run_room h =
          let k = set_size in
          let e = set_run_room (λ b. get_or vars b 0 ∷ []) old at x cur next left S a 8 r L (H.run t) W (let l : at + length (flat_map (λ b. get_or vars b 0 ∷ []) (listed x)) ≤ length old = omega arith in l) in
          let s = ap length (flat_map_one (λ b. get_or vars b 0) (range a 8)) ∙ (length-map (range a 8) (λ b. get_or vars b 0) ∙ length_range a 8) in
          omega arith

      pub run_turn : (new : List ℕ) (behind : ℕ) → Wrote cur next (eight_words vars a) new behind → VarsLeft vars old at x new behind r
      unfolding eight_words
      run_turn new behind E =
          set_run_turn (λ b. get_or vars b 0 ∷ []) old at x cur next left S a 8 r L (H.run t) W new behind (subst (λ ws. Wrote cur next ws new behind) (sym (flat_map_one (λ b. get_or vars b 0) (range a 8))) E)

    pub vars_end : left ≤ 0 → SetWrote old at vars x cur next
    vars_end h =
        let W = set_end (λ b. get_or vars b 0 ∷ []) old at x cur next left S h in
        let m = W.moved in
        let k = set_size in
        record { wrote = subst (λ ws. Wrote old at ws cur next) (flat_map_one (λ b. get_or vars b 0) (listed x)) W; far = omega arith }

-- What is left of a set falls, with its smallest atom or with eight in a row.
module _ (left a r : ℕ) (L : Lowest left a) where
  pub vars_less : Rest left r → length (listed r) < length (listed left)
  vars_less R = let e = ap length (listed_lowest left a L r R) in omega arith

  pub run_less : (b : Bool) → HasRun left a 8 b → b ≡ true → WithoutRun left a 8 r → length (listed r) < length (listed left)
  run_less b H t W = let e = run_length left a 8 r L (H.run t) W in omega arith

pub run_fits : (x a : ℕ) (b : Bool) → HasRun x a 8 b → b ≡ true → a + 8 ≤ 64
run_fits x a b H t = (H.run t).fits

-- Eight atoms in a row: the part of the table is copied.
part_is : (vars : List ℕ) (a k : ℕ) → a + k ≤ length vars → take k (drop a vars) ≡ map (λ b. get_or vars b 0) (range a k)
unfolding range
part_is vars a zero h = refl
part_is vars a (suc k) h = ap (take (suc k)) (drop-cons vars a 0 (omega arith)) ∙ ap (λ l. get_or vars a 0 ∷ l) (part_is vars (suc a) k (omega arith))

module _ (vars old part : List ℕ) (at a : ℕ) where
  pub eight_wrote : length vars ≡ 64 → a + 8 ≤ 64 → at + 8 ≤ length old → part ≡ take (a + 8 - a) (drop a vars) → Wrote old at (eight_words vars a) (put_mid at (at + 8 - at) old part) (at + 8)
  unfolding eight_words
  eight_wrote w f h e =
      let ws = map (λ b. get_or vars b 0) (range a 8) in
      let n : a + 8 - a ≡ 8 = omega arith in
      let is : part ≡ ws = e ∙ (ap (λ k. take k (drop a vars)) n ∙ part_is vars a 8 (omega arith)) in
      let s : length ws ≡ 8 = length-map (range a 8) (λ b. get_or vars b 0) ∙ length_range a 8 in
      record {
        stored = ap (put_mid at (at + 8 - at) old) is
            ∙ (ap (λ d. take at old ++ (ws ++ d)) (Post-is at (at + 8) old (omega arith) ∙ ap (λ k. drop (at + k) old) (sym s))
            ∙ (sym (append_assoc (take at old) ws (drop (at + length ws) old)) ∙ sym (sets-eq ws old at (omega arith))));
        moved = omega arith;
      }

-- The added atom.
module _ (added : ℕ) (old : List ℕ) (at : ℕ) where
  pub added_none : added ≡ 0 → AddedWrote old at added old at
  unfolding added_atom
  added_none z = rw z (record { wrote = record { stored = refl; moved = omega arith }; far = omega arith })

  module _ (ne : added ≡ 0 → ⊥) where
    one : map last (added_atom added) ≡ added ∷ []
    unfolding added_atom last
    one = by added ne
      where
        by : (a : ℕ) → (a ≡ 0 → ⊥) → map last (added_atom a) ≡ a ∷ []
        by zero z = absurd (z refl)
        by (suc a) z = refl

    size : length (added_atom added) ≡ 1
    size = sym (length-map (added_atom added) last) ∙ ap length one

    pub added_room : at + length (added_atom added) ≤ length old → at < length old
    added_room h = let e = size in omega arith

    pub added_one : (v : ℕ) → v ≡ added → (new : List ℕ) (r : ℕ) → Wrote old at (v ∷ []) new r → AddedWrote old at added new r
    added_one v e new r W = record { wrote = rw one (rw e at W); far = let e = size in let m = W.moved in omega arith }

-- A rule's body.
module _ (vars : List ℕ) (rule : TableRule) where
  abbrev positives : List ℕ
  positives = map (λ b. get_or vars b 0) (listed rule.pos)

  negatives : length (map last (listed rule.neg ++ added_atom rule.added)) ≡ negative_atoms rule.neg rule.added
  unfolding negative_atoms
  negatives = length-map (listed rule.neg ++ added_atom rule.added) last ∙ length-append (listed rule.neg) (added_atom rule.added)

  set_body : rule_body_words vars rule ≡ length (listed rule.pos) ∷ negative_atoms rule.neg rule.added ∷ (positives ++ (map last (listed rule.neg) ++ map last (added_atom rule.added)))
  unfolding rule_body_words body_words body_by renamed body_of
  set_body =
      ap₂ (λ x y. x ∷ y ∷ (positives ++ map last (listed rule.neg ++ added_atom rule.added))) (length-map (listed rule.pos) (λ b. get_or vars b 0)) negatives
      ∙ ap (λ l. length (listed rule.pos) ∷ negative_atoms rule.neg rule.added ∷ (positives ++ l)) (map-append last (listed rule.neg) (added_atom rule.added))

  pub body_size : length (rule_body_words vars rule) ≡ 2 + body_atoms rule
  unfolding body_atoms rule_body_words body_words body_by renamed body_of
  body_size =
      let f = length-append positives (map last (listed rule.neg ++ added_atom rule.added)) in
      let g = length-map (listed rule.pos) (λ b. get_or vars b 0) in
      let h = negatives in
      omega arith

  pub body_wrote : (lasts : List ℕ) (p n : ℕ) → Values last lasts → Size rule.pos p → n ≡ negative_atoms rule.neg rule.added
      → (old o₁ o₂ o₃ o₄ new : List ℕ) (at second first mid end r : ℕ) → Wrote old at (p ∷ []) o₁ second → Wrote o₁ second (n ∷ []) o₂ first → SetWrote o₂ first vars rule.pos o₃ mid
      → SetWrote o₃ mid lasts rule.neg o₄ end → AddedWrote o₄ end rule.added new r → Wrote old at (rule_body_words vars rule) new r
  unfolding listed
  body_wrote lasts p n L P N old o₁ o₂ o₃ o₄ new at second first mid end r W₁ W₂ W₃ W₄ W₅ =
      subst (λ ws. Wrote old at ws new r)
      (sym (set_body ∙ ap₂ (λ x y. (x ∷ []) ++ ((y ∷ []) ++ (positives ++ (map last (listed rule.neg) ++ map last (added_atom rule.added))))) (sym P.is) (sym N)
      ∙ ap (λ l. (p ∷ []) ++ ((n ∷ []) ++ (positives ++ (l ++ map last (added_atom rule.added))))) (sym (listed_last lasts rule.neg L))))
      (wrote_append _ _ _ _ _ _ _ _ W₁ (wrote_append _ _ _ _ _ _ _ _ W₂ (wrote_append _ _ _ _ _ _ _ _ W₃.wrote (wrote_append _ _ _ _ _ _ _ _ W₄.wrote W₅.wrote))))
