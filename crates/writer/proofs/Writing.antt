-- Laws of writers and of loops over them.
use mathlib.Core.List.{List, [], ◌∷◌, ◌++◌, append-nil, append_assoc}
use mathlib.Core.Path.{◌≡◌, refl, sym, ◌∙◌, ap, subst}
use Prim.Native.Nat.{ℕ, suc, ◌+◌, ◌≤◌}
use native.Mathlib.Nat.{add-zero, zero-add}
use native.Mathlib.Omega.{arith}
use lib.ListN.{length, length-append, take, drop, set}
use lib.Seq.{sets, length-sets, sets-eq, take-append_seam}
use Rattle.writer.specs.inner.Wrote.{Wrote}

module _ {A : Type 0} where
  -- The buffer keeps its length.
  pub wrote_length : (old : List A) (at : ℕ) (ws new : List A) (next : ℕ) → Wrote old at ws new next → length new ≡ length old
  wrote_length old at ws new next W = ap length W.stored ∙ length-sets old at ws

  sets_append : (xs ys old : List A) (at : ℕ) → sets old at (xs ++ ys) ≡ sets (sets old at xs) (at + length xs) ys
  sets_append [] ys old at = ap (λ k. sets old k ys) (sym (add-zero at))
  sets_append (x ∷ xs) ys old at =
      sets_append xs ys (set old at x) (suc at)
      ∙ ap (λ k. sets (sets (set old at x) (suc at) xs) k ys) (let e : suc at + length xs ≡ at + suc (length xs) = omega arith in e)

-- A loop that writes: what is written so far, and what is still to be written.
pub record Left {A : Type 0} (old : List A) (at : ℕ) (ws cur : List A) (next : ℕ) (rest : List A) : Type 0 where
  pub done : List A
  pub split : done ++ rest ≡ ws
  pub so_far : Wrote old at done cur next
  pub ends : next + length rest ≡ at + length ws

module _ {A : Type 0} (old : List A) (at : ℕ) (ws : List A) where
  pub left_start : (rest : List A) → rest ≡ ws → Left old at ws old at rest
  left_start rest e = record { done = []; split = e; so_far = record { stored = refl; moved = sym (add-zero at) }; ends = ap (λ l. at + length l) e }

  pub left_turn : (cur new xs rest less : List A) (next behind : ℕ) → Left old at ws cur next rest → rest ≡ xs ++ less → Wrote cur next xs new behind
      → Left old at ws new behind less
  left_turn cur new xs rest less next behind L e W =
      let d = L.done in
      let size = ap length e ∙ length-append xs less in
      let sum = length-append d xs in
      let m = L.so_far.moved in
      let k = W.moved in
      let f = L.ends in
      record {
        done = d ++ xs;
        split = append_assoc d xs less ∙ (ap (λ l. d ++ l) (sym e) ∙ L.split);
        so_far = record {
          stored = W.stored ∙ (ap (λ l. sets l next xs) L.so_far.stored ∙ (ap (λ p. sets (sets old at d) p xs) m ∙ sym (sets_append d xs old at)));
          moved = omega arith;
        };
        ends = omega arith;
      }

  pub left_length : (cur rest : List A) (next : ℕ) → Left old at ws cur next rest → length cur ≡ length old
  left_length cur rest next L = wrote_length old at L.done cur next L.so_far

  -- There is room for what comes next where there is room for all.
  pub left_room : (cur xs rest less : List A) (next : ℕ) → Left old at ws cur next rest → rest ≡ xs ++ less → at + length ws ≤ length old → next + length xs ≤ length cur
  left_room cur xs rest less next L e h = let f = L.ends in let n = left_length cur rest next L in let k = ap length e ∙ length-append xs less in omega arith

  pub left_end : (cur rest : List A) (next : ℕ) → Left old at ws cur next rest → rest ≡ [] → Wrote old at ws cur next
  left_end cur rest next L e = subst (λ l. Wrote old at l cur next) (sym (append-nil L.done) ∙ (ap (λ l. L.done ++ l) (sym e) ∙ L.split)) L.so_far

module _ {A : Type 0} where
  -- Two writers, one behind the other.
  pub wrote_append : (old mid new xs ys : List A) (at between next : ℕ) → Wrote old at xs mid between → Wrote mid between ys new next → Wrote old at (xs ++ ys) new next
  wrote_append old mid new xs ys at between next U W =
      let m = U.moved in
      let k = W.moved in
      let size = length-append xs ys in
      record {
        stored = W.stored ∙ (ap (λ l. sets l between ys) U.stored ∙ (ap (λ p. sets (sets old at xs) p ys) m ∙ sym (sets_append xs ys old at)));
        moved = omega arith;
      }

  -- Where two parts have room, the first has, and behind it the second.
  pub room_front : (old xs ys : List A) (at : ℕ) → at + length (xs ++ ys) ≤ length old → at + length xs ≤ length old
  room_front old xs ys at h = let e = length-append xs ys in omega arith

  pub room_behind : (old mid xs ys : List A) (at between : ℕ) → Wrote old at xs mid between → at + length (xs ++ ys) ≤ length old → between + length ys ≤ length mid
  room_behind old mid xs ys at between W h = let e = length-append xs ys in let k = wrote_length old at xs mid between W in let m = W.moved in omega arith

  -- A whole output that fits: the output, then the buffer as it was.
  pub wrote_whole : (old ws new : List A) (next : ℕ) → Wrote old 0 ws new next → length ws ≤ length old → new ≡ ws ++ drop (length ws) old
  wrote_whole old ws new next W l =
      W.stored ∙ (sets-eq ws old 0 (let e = zero-add (length ws) in omega arith) ∙ ap (λ k. ws ++ drop k old) (zero-add (length ws)))

  -- So the output is the beginning of the buffer.
  pub wrote_front : (old ws new : List A) (next : ℕ) → Wrote old 0 ws new next → length ws ≤ length old → (next ≤ length new) × (take next new ≡ ws)
  wrote_front old ws new next W l =
      let whole = wrote_whole old ws new next W l in
      let m = W.moved in
      let k : next ≡ length ws = omega arith in
      let size = ap length whole ∙ length-append ws (drop (length ws) old) in
      (omega arith, ap (λ j. take j new) k ∙ (ap (take (length ws)) whole ∙ take-append_seam ws (drop (length ws) old)))
