-- Laws of writing the clauses of the rules kept for a copy, and the clause of their variables.
use mathlib.Core.List.{List, [], ◌∷◌, ◌++◌, map, map-map, flat_map}
use mathlib.Core.Path.{◌≡◌, refl, sym, ◌∙◌, ap, ap₂, subst}
use Prim.Native.Nat.{ℕ, suc, ◌+◌, ◌-◌, ◌≤◌, ◌<◌}
use native.Mathlib.Omega.{arith}
use lib.IntN.{ℤ, pos, neg_ℤ}
use native.Mathlib.Numerals.{add-one}
use lib.ListN.{length, length-map, get_or, drop, drop_of_length-le}
use lib.Seq.{drop-cons}
use Rattle.lists.specs.Lists.{range}
use Rattle.lists.proofs.Nodup.{length_range}
use Rattle.asp.specs.Program.{Body}
use Rattle.unfolding.specs.Clauses.{Literal, positive, negative, rule_clauses, rules_clauses, signed, clause_words, signed_words}
use Rattle.program.specs.inner.Held.{table_rule}
use Rattle.program.specs.declared.TableRule.{TableRule}
use Rattle.writer.specs.inner.Wrote.{Wrote}
use Rattle.writer.proofs.Writing.{Left, left_turn, left_room, left_end, wrote_append, wrote_length}
use Rattle.writer.proofs.Loops.{flat_map_one, RangeLeft, range_turn, range_room, range_end}
use Rattle.copies.specs.inner.Bodies.{body_by, entry_body, bodies_by}
use Rattle.rule_clauses.specs.inner.Literals.{rule_words}
use Rattle.rule_clauses.proofs.Rule.{signed_append}
use Rattle.copy_clauses.specs.inner.Ends.{rules_words, numbers_words, first_words}

-- The loop over the rules.
module _ (t p vars : List ℕ) (h d : ℕ) (listed : List ℕ) where
  pub record RulesLeft (old : List ℤ) (at : ℕ) (cur : List ℤ) (next rule j : ℕ) : Type 0 where
    pub counted : rule ≡ d + j
    pub left : Left old at (rules_words t p vars h d listed) cur next (rules_words t p vars h rule (drop j listed))

  module _ (old : List ℤ) (at : ℕ) where
    module _ (cur : List ℤ) (next rule j : ℕ) (L : RulesLeft old at cur next rule j) where
      module _ (lt : j < length listed) where
        pub rules_variable : d + length listed < 2147483648 → rule < 2147483648
        rules_variable l = let e = L.counted in omega arith

        module _ (i : ℕ) (I : i ≡ get_or listed j 0) where
          module _ (r : TableRule) (e : r ≡ table_rule t p i) where
            abbrev behind_one : List ℤ
            behind_one = rules_words t p vars h (rule + 1) (drop (j + 1) listed)

            step : rules_words t p vars h rule (drop j listed) ≡ rule_words vars h rule r ++ behind_one
            unfolding rules_words bodies_by entry_body rules_clauses rule_words
            step =
                let bodies : List ℕ → List Body = map (entry_body t p vars) in
                let here : table_rule t p (get_or listed j 0) ≡ r = ap (table_rule t p) (sym I) ∙ sym e in
                ap (λ l. signed_words (rules_clauses h rule (bodies l))) (drop-cons listed j 0 lt ∙ ap (λ k. get_or listed j 0 ∷ drop k listed) (sym (add-one j)))
                ∙ (signed_append (rule_clauses h rule (entry_body t p vars (get_or listed j 0))) (rules_clauses h (suc rule) (bodies (drop (j + 1) listed)))
                ∙ ap₂ (λ (x : TableRule) v. signed_words (rule_clauses h rule (body_by vars x)) ++ signed_words (rules_clauses h v (bodies (drop (j + 1) listed)))) here (sym (add-one rule)))

            pub rules_room : at + length (rules_words t p vars h d listed) ≤ length old → next + length (rule_words vars h rule r) ≤ length cur
            rules_room l = left_room old at (rules_words t p vars h d listed) cur (rule_words vars h rule r) _ behind_one next L.left step l

            pub rules_turn : (new : List ℤ) (behind : ℕ) → Wrote cur next (rule_words vars h rule r) new behind → RulesLeft old at new behind (rule + 1) (j + 1)
            rules_turn new behind W =
                record {
                  counted = let c = L.counted in omega arith;
                  left = left_turn old at (rules_words t p vars h d listed) cur new (rule_words vars h rule r) _ behind_one next behind L.left step W;
                }

      none : rules_words t p vars h rule [] ≡ []
      unfolding rules_words bodies_by rules_clauses signed_words flat_map
      none = refl

      pub rules_end : length listed ≤ j → Wrote old at (rules_words t p vars h d listed) cur next
      rules_end l = left_end old at (rules_words t p vars h d listed) cur _ next L.left (ap (rules_words t p vars h rule) (drop_of_length-le listed l) ∙ none)

-- The literals from .. to - 1.
abbrev pub NumbersLeft : List ℤ → ℕ → ℕ → ℕ → List ℤ → ℕ → ℕ → Type 0
NumbersLeft = RangeLeft (λ v. pos v ∷ [])

numbers_are : (from to : ℕ) → flat_map (λ v. pos v ∷ []) (range from (to - from)) ≡ numbers_words from to
unfolding numbers_words signed
numbers_are from to = flat_map_one pos (range from (to - from)) ∙ sym (map-map signed positive (range from (to - from)))

numbers_size : (from to : ℕ) → length (numbers_words from to) ≡ to - from
unfolding numbers_words
numbers_size from to = length-map (map positive (range from (to - from))) signed ∙ (length-map {B = Literal} (range from (to - from)) positive ∙ length_range from (to - from))

module _ (old : List ℤ) (at from to : ℕ) where
  module _ (cur : List ℤ) (next v : ℕ) (L : NumbersLeft old at from to cur next v) where
    module _ (lt : v < to) where
      pub numbers_room : at + length (numbers_words from to) ≤ length old → next < length cur
      numbers_room h = let r = range_room (λ v. pos v ∷ []) old at from to cur next v L lt (subst (λ ws. at + length ws ≤ length old) (sym (numbers_are from to)) h) in omega arith

      pub numbers_turn : (new : List ℤ) (behind : ℕ) → Wrote cur next (pos v ∷ []) new behind → NumbersLeft old at from to new behind (v + 1)
      numbers_turn new behind W = range_turn (λ v. pos v ∷ []) old at from to cur next v L lt new behind W

    pub numbers_end : to ≤ v → Wrote old at (numbers_words from to) cur next
    numbers_end l = subst (λ ws. Wrote old at ws cur next) (numbers_are from to) (range_end (λ v. pos v ∷ []) old at from to cur next v L l)

-- The clause of -h and its rules' variables.
module _ (h d k : ℕ) (old o₁ : List ℤ) (at second : ℕ) (room : at + k + 2 ≤ length old) (W₁ : Wrote old at (neg_ℤ (pos h) ∷ []) o₁ second) where
  pub first_second : second + length (numbers_words d (d + k)) ≤ length o₁
  first_second = let m = W₁.moved in let n = wrote_length _ _ _ _ _ W₁ in let e = numbers_size d (d + k) in omega arith

  module _ (o₂ : List ℤ) (end : ℕ) (W₂ : Wrote o₁ second (numbers_words d (d + k)) o₂ end) where
    pub first_third : end < length o₂
    first_third = let n = wrote_length _ _ _ _ _ W₁ in let n₂ = wrote_length _ _ _ _ _ W₂ in let m = W₁.moved in let m₂ = W₂.moved in let e = numbers_size d (d + k) in omega arith

    pub first_wrote : (new : List ℤ) (r : ℕ) → Wrote o₂ end (pos 0 ∷ []) new r → Wrote old at (first_words h d k) new r
    unfolding first_words numbers_words clause_words signed
    first_wrote new r W₃ =
        subst (λ j. Wrote old at (clause_words (negative h ∷ map positive (range d j))) new r) (let e : d + k - d ≡ k = omega arith in e)
        (wrote_append _ _ _ _ _ _ _ _ W₁ (wrote_append _ _ _ _ _ _ _ _ W₂ W₃))
