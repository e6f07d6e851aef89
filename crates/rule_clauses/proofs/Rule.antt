-- Laws of writing the clauses of one rule.
use mathlib.Core.Bool.{true, false}
use mathlib.Core.List.{List, [], ◌∷◌, ◌++◌, map, map-map, map-append, flat_map, append-nil, append_assoc}
use mathlib.Core.Path.{◌≡◌, refl, sym, ◌∙◌, ap, ap₂, subst}
use Prim.Native.Nat.{ℕ, ◌+◌, ◌≤◌, ◌<◌}
use native.Mathlib.Omega.{arith}
use lib.IntN.{ℤ, pos}
use lib.ListN.{length, length-append, get_or}
use Rattle.asp.specs.Program.{Body}
use Rattle.unfolding.specs.Unfolded.{last, renamed}
use Rattle.unfolding.specs.Clauses.{Literal, positive, negative, negated, Clause, literals, rule_clauses, constraint_clause, signed, clause_words, signed_words}
use Rattle.bits.specs.inner.Visited.{listed}
use Rattle.program.specs.inner.Held.{added_atom, body_of}
use Rattle.program.specs.declared.TableRule.{TableRule}
use Rattle.writer.specs.inner.Wrote.{Wrote}
use Rattle.writer.proofs.Writing.{wrote_append, wrote_length}
use Rattle.copies.specs.inner.Tables.{Values}
use Rattle.copies.specs.inner.Bodies.{body_by}
use Rattle.copies.proofs.Tables.{listed_last}
use Rattle.rule_clauses.specs.inner.Literals.{literal_of, literal_by, pairs, pairs_words, flipped, flipped_words, added_literals, added_pair_words, added_flipped_words, body_pairs, body_pairs_words, back_words, rule_words}
use Rattle.rule_clauses.proofs.Signs.{flipped_size, two_size, added_size}

-- The words of clauses, one list behind the other.
pub signed_append : (cs ds : List Clause) → signed_words (cs ++ ds) ≡ signed_words cs ++ signed_words ds
unfolding signed_words flat_map
signed_append [] ds = refl
signed_append (c ∷ cs) ds = ap (λ ws. clause_words c ++ ws) (signed_append cs ds) ∙ sym (append_assoc (clause_words c) (signed_words cs) (signed_words ds))

-- The body of two sets and an added atom.
module _ (vars lasts : List ℕ) (rule : TableRule) (F : Values last lasts) where
  abbrev body : Body
  body = body_by vars rule

  abbrev positives : List Literal
  positives = map (literal_by vars true) (listed rule.pos)

  abbrev negatives : List Literal
  negatives = map (literal_by lasts false) (listed rule.neg)

  negatives_are : map negative (map last (listed rule.neg ++ added_atom rule.added)) ≡ negatives ++ added_literals rule.added
  unfolding literal_by literal_of added_literals
  negatives_are =
      ap (map negative) (map-append last (listed rule.neg) (added_atom rule.added))
      ∙ (map-append negative (map last (listed rule.neg)) (map last (added_atom rule.added))
      ∙ ap₂ (λ (x y : List Literal). x ++ y)
      (ap (map negative) (sym (listed_last lasts rule.neg F)) ∙ map-map negative (λ b. get_or lasts b 0) (listed rule.neg))
      (map-map negative last (added_atom rule.added)))

  literals_are : literals body ≡ positives ++ (negatives ++ added_literals rule.added)
  unfolding literals body_by body_of renamed literal_by literal_of
  literals_are = ap₂ (λ (x y : List Literal). x ++ y) (map-map positive (λ b. get_or vars b 0) (listed rule.pos)) negatives_are

  -- What is made of each literal of the body.
  each : {A : Type 0} (g : Literal → A)
      → map g (literals body) ≡ map (λ b. g (literal_by vars true b)) (listed rule.pos) ++ (map (λ b. g (literal_by lasts false b)) (listed rule.neg) ++ map g (added_literals rule.added))
  each {A} g =
      ap (map g) literals_are
      ∙ (map-append g positives (negatives ++ added_literals rule.added)
      ∙ ap₂ (λ (x y : List A). x ++ y) (map-map g (literal_by vars true) (listed rule.pos))
      (map-append g negatives (added_literals rule.added) ∙ ap (λ (x : List A). x ++ map g (added_literals rule.added)) (map-map g (literal_by lasts false) (listed rule.neg))))

  module _ (d : ℕ) where
    abbrev firsts : List ℤ
    firsts = pairs_words vars true d rule.pos

    abbrev seconds : List ℤ
    seconds = pairs_words lasts false d rule.neg

    abbrev thirds : List ℤ
    thirds = added_pair_words d rule.added

    pairs_words_lem : body_pairs_words vars d rule ≡ firsts ++ (seconds ++ thirds)
    unfolding body_pairs_words body_pairs pairs_words pairs added_pair_words
    pairs_words_lem =
        let g : Literal → Clause = λ l. negative d ∷ l ∷ [] in
        ap signed_words (each g)
        ∙ (signed_append (pairs vars true d rule.pos) (pairs lasts false d rule.neg ++ map g (added_literals rule.added))
        ∙ ap (λ ws. firsts ++ ws) (signed_append (pairs lasts false d rule.neg) (map g (added_literals rule.added))))

    pairs_size : length (body_pairs_words vars d rule) ≡ length firsts + (length seconds + length thirds)
    pairs_size = ap length pairs_words_lem ∙ (length-append firsts (seconds ++ thirds) ∙ ap (λ n. length firsts + n) (length-append seconds thirds))

    module _ (old : List ℤ) (at : ℕ) (room : at + length (body_pairs_words vars d rule) ≤ length old) where
      pub pairs_first : at + length (pairs_words vars true d rule.pos) ≤ length old
      pairs_first = let e = pairs_size in omega arith

      module _ (o₁ : List ℤ) (mid : ℕ) (W₁ : Wrote old at (pairs_words vars true d rule.pos) o₁ mid) where
        pub pairs_second : mid + length (pairs_words lasts false d rule.neg) ≤ length o₁
        pairs_second = let e = pairs_size in let m = W₁.moved in let n = wrote_length _ _ _ _ _ W₁ in omega arith

        pub pairs_third : (o₂ : List ℤ) (end : ℕ) → Wrote o₁ mid (pairs_words lasts false d rule.neg) o₂ end → end + length (added_pair_words d rule.added) ≤ length o₂
        pairs_third o₂ end W₂ =
            let e = pairs_size in let m₁ = W₁.moved in let m₂ = W₂.moved in let n₁ = wrote_length _ _ _ _ _ W₁ in let n₂ = wrote_length _ _ _ _ _ W₂ in omega arith

    pub pairs_wrote : (old o₁ o₂ new : List ℤ) (at mid end r : ℕ) → Wrote old at (pairs_words vars true d rule.pos) o₁ mid → Wrote o₁ mid (pairs_words lasts false d rule.neg) o₂ end
        → Wrote o₂ end (added_pair_words d rule.added) new r → Wrote old at (body_pairs_words vars d rule) new r
    pairs_wrote old o₁ o₂ new at mid end r W₁ W₂ W₃ =
        subst (λ ws. Wrote old at ws new r) (sym pairs_words_lem) (wrote_append _ _ _ _ _ _ _ _ W₁ (wrote_append _ _ _ _ _ _ _ _ W₂ W₃))

  abbrev fourths : List ℤ
  fourths = flipped_words lasts false rule.neg ++ (added_flipped_words rule.added ++ (pos 0 ∷ []))

  back_words_lem : back_words vars rule ≡ flipped_words vars true rule.pos ++ fourths
  unfolding back_words clause_words constraint_clause flipped_words flipped added_flipped_words
  back_words_lem =
      let g = flipped vars true rule.pos in
      let h = flipped lasts false rule.neg in
      let k = map negated (added_literals rule.added) in
      ap (λ (c : Clause). map signed c ++ (pos 0 ∷ [])) (each negated)
      ∙ (ap (λ (ws : List ℤ). ws ++ (pos 0 ∷ [])) (map-append signed g (h ++ k) ∙ ap (λ (ws : List ℤ). map signed g ++ ws) (map-append signed h k))
      ∙ (append_assoc (map signed g) (map signed h ++ map signed k) (pos 0 ∷ [])
      ∙ ap (λ (ws : List ℤ). map signed g ++ ws) (append_assoc (map signed h) (map signed k) (pos 0 ∷ []))))

  back_size : length (back_words vars rule) ≡ length (listed rule.pos) + length (listed rule.neg) + length (added_atom rule.added) + 1
  back_size =
      let e = ap length back_words_lem ∙ length-append (flipped_words vars true rule.pos) fourths in
      let f = length-append (flipped_words lasts false rule.neg) (added_flipped_words rule.added ++ (pos 0 ∷ [])) in
      let x = length-append (added_flipped_words rule.added) (pos 0 ∷ []) in
      let g = flipped_size vars true rule.pos in
      let h = flipped_size lasts false rule.neg in
      let k = added_size rule.added in
      omega arith

  module _ (old : List ℤ) (at : ℕ) (room : at + length (back_words vars rule) ≤ length old) where
    pub back_first : at + length (listed rule.pos) ≤ length old
    back_first = let e = back_size in omega arith

    module _ (o₁ : List ℤ) (mid : ℕ) (W₁ : Wrote old at (flipped_words vars true rule.pos) o₁ mid) where
      pub back_second : mid + length (listed rule.neg) ≤ length o₁
      back_second = let e = back_size in let m = W₁.moved in let n = wrote_length _ _ _ _ _ W₁ in let g = flipped_size vars true rule.pos in omega arith

      module _ (o₂ : List ℤ) (behind : ℕ) (W₂ : Wrote o₁ mid (flipped_words lasts false rule.neg) o₂ behind) where
        pub back_third : behind + length (added_atom rule.added) ≤ length o₂
        back_third =
            let e = back_size in let m = W₁.moved in let m₂ = W₂.moved in let n = wrote_length _ _ _ _ _ W₁ in let n₂ = wrote_length _ _ _ _ _ W₂ in let g = flipped_size vars true rule.pos in let h = flipped_size lasts false rule.neg in omega arith

        module _ (o₃ : List ℤ) (end : ℕ) (W₃ : Wrote o₂ behind (added_flipped_words rule.added) o₃ end) where
          pub back_fourth : end < length o₃
          back_fourth =
              let m = W₁.moved in let m₂ = W₂.moved in let m₃ = W₃.moved in let n = wrote_length _ _ _ _ _ W₁ in let n₂ = wrote_length _ _ _ _ _ W₂ in let n₃ = wrote_length _ _ _ _ _ W₃ in
              let e = back_size in let g = flipped_size vars true rule.pos in let h = flipped_size lasts false rule.neg in let k = added_size rule.added in omega arith

          pub back_wrote : (new : List ℤ) (r : ℕ) → Wrote o₃ end (pos 0 ∷ []) new r → Wrote old at (back_words vars rule) new r
          back_wrote new r W₄ =
              subst (λ ws. Wrote old at ws new r) (sym back_words_lem) (wrote_append _ _ _ _ _ _ _ _ W₁ (wrote_append _ _ _ _ _ _ _ _ W₂ (wrote_append _ _ _ _ _ _ _ _ W₃ W₄)))

-- The first literal of a clause.
back_first_word : (c : Clause) (d : ℕ) → clause_words (positive d ∷ c) ≡ (pos d ∷ []) ++ clause_words c
unfolding clause_words signed
back_first_word c d = refl

-- The words of a rule's clauses, by their parts.
module _ (h d : ℕ) (b : Body) where
  parts : signed_words (rule_clauses h d b) ≡ clause_words (literal_of true h ∷ literal_of false d ∷ []) ++ (signed_words (body_pairs d b) ++ ((pos d ∷ []) ++ clause_words (constraint_clause b)))
  unfolding rule_clauses body_pairs literal_of constraint_clause signed_words flat_map
  parts =
      let back : Clause = positive d ∷ map negated (literals b) in
      ap (λ ws. clause_words (positive h ∷ negative d ∷ []) ++ ws)
      (signed_append (map (λ l. negative d ∷ l ∷ []) (literals b)) (back ∷ [])
      ∙ ap (λ ws. signed_words (map (λ l. negative d ∷ l ∷ []) (literals b)) ++ ws) (append-nil (clause_words back) ∙ back_first_word (map negated (literals b)) d))

  pub rule_size : length (signed_words (rule_clauses h d b)) ≡ 3 + length (signed_words (body_pairs d b)) + 1 + length (clause_words (constraint_clause b))
  rule_size =
      let e = ap length parts ∙ length-append (clause_words (literal_of true h ∷ literal_of false d ∷ [])) (signed_words (body_pairs d b) ++ ((pos d ∷ []) ++ clause_words (constraint_clause b))) in
      let f = length-append (signed_words (body_pairs d b)) ((pos d ∷ []) ++ clause_words (constraint_clause b)) in
      let g = two_size (literal_of true h) (literal_of false d) in
      omega arith

-- A rule.
module _ (vars : List ℕ) (h d : ℕ) (rule : TableRule) where
  whole : length (rule_words vars h d rule) ≡ 3 + length (body_pairs_words vars d rule) + 1 + length (back_words vars rule)
  unfolding rule_words body_pairs_words back_words
  whole = rule_size h d (body_by vars rule)

  module _ (old : List ℤ) (at : ℕ) (room : at + length (rule_words vars h d rule) ≤ length old) where
    pub rule_first : at + 3 ≤ length old
    rule_first = let e = whole in omega arith

    module _ (o₁ : List ℤ) (p₁ : ℕ) (W₁ : Wrote old at (clause_words (literal_of true h ∷ literal_of false d ∷ [])) o₁ p₁) where
      pub rule_second : p₁ + length (body_pairs_words vars d rule) ≤ length o₁
      rule_second = let e = whole in let n = wrote_length _ _ _ _ _ W₁ in let m = W₁.moved in let g = two_size (literal_of true h) (literal_of false d) in omega arith

      module _ (o₂ : List ℤ) (p₂ : ℕ) (W₂ : Wrote o₁ p₁ (body_pairs_words vars d rule) o₂ p₂) where
        pub rule_third : p₂ < length o₂
        rule_third = let e = whole in let n = wrote_length _ _ _ _ _ W₁ in let n₂ = wrote_length _ _ _ _ _ W₂ in let m = W₁.moved in let m₂ = W₂.moved in let g = two_size (literal_of true h) (literal_of false d) in omega arith

        module _ (o₃ : List ℤ) (p₃ : ℕ) (W₃ : Wrote o₂ p₂ (pos d ∷ []) o₃ p₃) where
          pub rule_fourth : p₃ + length (back_words vars rule) ≤ length o₃
          rule_fourth =
              let n = wrote_length _ _ _ _ _ W₁ in let n₂ = wrote_length _ _ _ _ _ W₂ in let n₃ = wrote_length _ _ _ _ _ W₃ in
              let e = whole in let m = W₁.moved in let m₂ = W₂.moved in let m₃ = W₃.moved in let g = two_size (literal_of true h) (literal_of false d) in omega arith

          pub rule_wrote : (new : List ℤ) (r : ℕ) → Wrote o₃ p₃ (back_words vars rule) new r → Wrote old at (rule_words vars h d rule) new r
          unfolding rule_words body_pairs_words back_words
          rule_wrote new r W₄ =
              subst (λ ws. Wrote old at ws new r) (sym (parts h d (body_by vars rule)))
              (wrote_append _ _ _ _ _ _ _ _ W₁ (wrote_append _ _ _ _ _ _ _ _ W₂ (wrote_append _ _ _ _ _ _ _ _ W₃ W₄)))
