-- Laws of writing the words of a copy.
use mathlib.Core.List.{List, [], ◌∷◌, flat_map}
use mathlib.Core.Path.{◌≡◌, sym, ◌∙◌, ap, subst}
use Prim.Native.Nat.{ℕ, ◌+◌, ◌≤◌, ◌<◌}
use native.Mathlib.Omega.{arith}
use lib.ListN.{length, get_or}
use Rattle.unfolding.specs.Unfolded.{body_words}
use Rattle.program.specs.inner.Held.{table_rule}
use Rattle.program.specs.declared.TableRule.{TableRule}
use Rattle.writer.specs.inner.Wrote.{Wrote}
use Rattle.writer.proofs.Writing.{wrote_append, wrote_length}
use Rattle.writer.proofs.Loops.{flat_map_map, ItemsLeft, items_turn, items_room, items_end}
use Rattle.copies.specs.inner.Bodies.{entry_body, bodies_by, body_atoms}
use Rattle.copies.specs.inner.Kept.{Inside}
use Rattle.body_words.specs.inner.Words.{rule_body_words}
use Rattle.body_words.proofs.Body.{body_size}
use Rattle.copy_words.specs.inner.Words.{bodies_words, listed_words, kept_words}

-- The bodies of entries that are listed.
abbrev pub ListedLeft : List ℕ → List ℕ → List ℕ → List ℕ → ℕ → List ℕ → List ℕ → ℕ → ℕ → Type 0
ListedLeft t p vars = ItemsLeft (λ i. rule_body_words vars (table_rule t p i))

module _ (t p vars old : List ℕ) (at : ℕ) (listed : List ℕ) where
  abbrev f : ℕ → List ℕ
  f i = rule_body_words vars (table_rule t p i)

  listed_are : flat_map f listed ≡ listed_words t p vars listed
  unfolding listed_words bodies_words bodies_by entry_body rule_body_words
  listed_are = sym (flat_map_map body_words (entry_body t p vars) listed)

  module _ (cur : List ℕ) (next j : ℕ) (L : ListedLeft t p vars old at listed cur next j) where
    module _ (lt : j < length listed) (i : ℕ) (I : i ≡ get_or listed j 0) where
      pub listed_low : Inside listed → i < 192
      listed_low J = rw I (J.low j lt)

      module _ (r : TableRule) (R : r ≡ table_rule t p i) where
        is : r ≡ table_rule t p (get_or listed j 0)
        is = R ∙ ap (table_rule t p) I

        pub listed_room : at + length (listed_words t p vars listed) ≤ length old → next + 2 + body_atoms r ≤ length cur
        listed_room h =
            let e = items_room f old at listed cur next j L lt (subst (λ ws. at + length ws ≤ length old) (sym listed_are) h) in
            let s = ap (λ x. length (rule_body_words vars x)) is in
            let b = body_size vars r in
            omega arith

        pub listed_turn : (new : List ℕ) (behind : ℕ) → Wrote cur next (rule_body_words vars r) new behind → ListedLeft t p vars old at listed new behind (j + 1)
        listed_turn new behind W = items_turn f old at listed cur next j L lt new behind (subst (λ x. Wrote cur next (rule_body_words vars x) new behind) is W)

    pub listed_end : length listed ≤ j → Wrote old at (listed_words t p vars listed) cur next
    listed_end l = subst (λ ws. Wrote old at ws cur next) listed_are (items_end f old at listed cur next j L l)

-- A copy.
module _ (t p vars : List ℕ) (var : ℕ) (listed : List ℕ) (at : ℕ) where
  module _ (old o₁ o₂ : List ℕ) (second next : ℕ) (W₁ : Wrote old at (var ∷ []) o₁ second) (W₂ : Wrote o₁ second (length listed ∷ []) o₂ next) where
    pub copy_room : at + length (kept_words t p vars var listed) ≤ length old → next + length (listed_words t p vars listed) ≤ length o₂
    unfolding kept_words
    copy_room h = let m₁ = W₁.moved in let m₂ = W₂.moved in let n₁ = wrote_length _ _ _ _ _ W₁ in let n₂ = wrote_length _ _ _ _ _ W₂ in omega arith

    pub copy_wrote : (new : List ℕ) (r : ℕ) → Wrote o₂ next (listed_words t p vars listed) new r → Wrote old at (kept_words t p vars var listed) new r
    unfolding kept_words
    copy_wrote new r W₃ = wrote_append _ _ _ _ _ _ _ _ W₁ (wrote_append _ _ _ _ _ _ _ _ W₂ W₃)
