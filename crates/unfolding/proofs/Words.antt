-- The literals of the clauses name variables of 1 .. the number of variables, so the signed words, split at 0, give the clauses back.
use mathlib.Core.List.Memᴰ
use mathlib.Core.List.{List, [], ◌∷◌, ◌++◌, map, flat_map, Memᴰ}
use mathlib.Core.Logic.{◌⊎◌, inl, inr, ⊎_elim}
use mathlib.Core.Path.{◌≡◌, refl, sym, ◌∙◌, ap, subst}
use Prim.Native.Nat.{ℕ, zero, suc, ◌+◌, ◌≤◌, ◌<◌}
use native.Mathlib.Nat.{not-suc-le-zero}
use native.Mathlib.Omega.{arith}
use lib.IntN.{ℤ}
use lib.ListN.{length, length-append}
use Rattle.lists.specs.Lists.{range}
use Rattle.lists.proofs.Members.{flat_map_in, range_out}
use Rattle.asp.specs.Program.{Body}
use Rattle.unfolding.specs.Unfolded.{Copy, Unfolded}
use Rattle.unfolding.specs.Clauses.{Literal, positive, negative, variable_of, negated, Clause, literals, rule_clauses, rules_clauses, copy_clauses, copies_clauses, constraint_clause, clauses, variables, signed, clause_words, signed_words, in_front, read_word, read_words}
use Rattle.unfolding.proofs.Completion.{bodies}

-- Which variables the literals of the clauses have: those of the copies, of the bodies, of the constraints, and the rule variables.
module _ (Q : ℕ → Type 0) where
  abbrev On : Clause → Type 0
  On c = (l : Literal) → Memᴰ l c → Q (variable_of l)

  abbrev AllOn : List Clause → Type 0
  AllOn cs = (c : Clause) → Memᴰ c cs → On c

  abbrev pub BodyOn : Body → Type 0
  BodyOn b = (v : ℕ) → Memᴰ v b.pos ⊎ Memᴰ v b.neg → Q v

  on_one : (l : Literal) (c : Clause) → Q (variable_of l) → On c → On (l ∷ c)
  on_one l c q h x m = ⊎_elim (λ e. subst (λ y. Q (variable_of y)) (sym e) q) (h x) (Memᴰ.cases_cons m)

  on_none : On []
  on_none l m = absurd (Memᴰ.not-nil m)

  on_literals : (b : Body) → BodyOn b → On (literals b)
  unfolding literals variable_of
  on_literals b h l m =
      ⊎_elim (λ k. let u = Memᴰ.of_map positive b.pos k in subst (λ y. Q (variable_of y)) u.2 (h u.0 (inl u.1)))
      (λ k. let u = Memᴰ.of_map negative b.neg k in subst (λ y. Q (variable_of y)) u.2 (h u.0 (inr u.1))) (Memᴰ.append_cases (map positive b.pos) m)

  variable_negated : (l : Literal) → variable_of (negated l) ≡ variable_of l
  unfolding variable_of negated
  variable_negated (positive v) = refl
  variable_negated (negative v) = refl

  on_negated : (c : Clause) → On c → On (map negated c)
  on_negated c h l m = let u = Memᴰ.of_map negated c m in subst Q (sym (variable_negated u.0) ∙ ap variable_of u.2) (h u.0 u.1)

  all_append : (cs ds : List Clause) → AllOn cs → AllOn ds → AllOn (cs ++ ds)
  all_append cs ds g h c m = ⊎_elim (g c) (h c) (Memᴰ.append_cases cs m)

  all_one : (c : Clause) (cs : List Clause) → On c → AllOn cs → AllOn (c ∷ cs)
  all_one c cs g h d m = ⊎_elim (λ e. subst On (sym e) g) (h d) (Memᴰ.cases_cons m)

  all_none : AllOn []
  all_none c m = absurd (Memᴰ.not-nil m)

  on_rule : (h d : ℕ) (b : Body) → Q h → Q d → BodyOn b → AllOn (rule_clauses h d b)
  unfolding rule_clauses variable_of
  on_rule h d b qh qd qb =
      all_one (positive h ∷ negative d ∷ []) (pairs ++ (back ∷ []))
      (on_one (positive h) (negative d ∷ []) qh (on_one (negative d) [] qd on_none))
      (all_append pairs (back ∷ []) (λ c m. let u = Memᴰ.of_map (λ l. negative d ∷ l ∷ []) (literals b) m in
      subst On u.2 (on_one (negative d) (u.0 ∷ []) qd (on_one u.0 [] (on_literals b qb u.0 u.1) on_none)))
      (all_one back [] (on_one (positive d) (map negated (literals b)) qd (on_negated (literals b) (on_literals b qb))) all_none))
    where
      pairs : List Clause
      pairs = map (λ l. negative d ∷ l ∷ []) (literals b)

      back : Clause
      back = positive d ∷ map negated (literals b)

  on_rules : (h d : ℕ) (bs : List Body) → Q h → ((v : ℕ) → d ≤ v → v < d + length bs → Q v) → ((b : Body) → Memᴰ b bs → BodyOn b) → AllOn (rules_clauses h d bs)
  unfolding rules_clauses
  on_rules h d [] qh qd qb = all_none
  on_rules h d (b ∷ bs) qh qd qb =
      all_append (rule_clauses h d b) (rules_clauses h (suc d) bs) (on_rule h d b qh (qd d (omega arith) (omega arith)) (qb b (Memᴰ.head refl)))
      (on_rules h (suc d) bs qh (λ v l k. qd v (omega arith) (omega arith)) (λ c m. qb c (Memᴰ.tail m)))

  on_copies : (d : ℕ) (cs : List Copy) → ((c : Copy) → Memᴰ c cs → Q c.var) → ((v : ℕ) → d ≤ v → v < d + length (flat_map (λ c. c.kept) cs) → Q v)
      → ((c : Copy) → Memᴰ c cs → (b : Body) → Memᴰ b c.kept → BodyOn b) → AllOn (copies_clauses d cs)
  unfolding copies_clauses copy_clauses flat_map variable_of
  on_copies d [] qc qd qb = all_none
  on_copies d (c ∷ cs) qc qd qb =
      let k = length c.kept in
      let size = length-append c.kept (flat_map (λ (c : Copy). c.kept) cs) in
      all_append (copy_clauses d c) (copies_clauses (d + k) cs)
      (all_one (negative c.var ∷ map positive (range d k)) (rules_clauses c.var d c.kept)
      (on_one (negative c.var) (map positive (range d k)) (qc c (Memᴰ.head refl))
      (λ l m. let u = Memᴰ.of_map positive (range d k) m in let r = range_out d k u.0 u.1 in subst (λ y. Q (variable_of y)) u.2 (qd u.0 r.low (omega (arith, r.high)))))
      (on_rules c.var d c.kept (qc c (Memᴰ.head refl)) (λ v l h. qd v l (omega arith)) (qb c (Memᴰ.head refl))))
      (on_copies (d + k) cs (λ x m. qc x (Memᴰ.tail m)) (λ v l h. qd v (omega arith) (omega arith)) (λ x m. qb x (Memᴰ.tail m)))

  pub on_clauses : (U : Unfolded) → ((c : Copy) → Memᴰ c U.copies → Q c.var) → ((v : ℕ) → length U.copies < v → v ≤ variables U → Q v)
      → ((b : Body) → Memᴰ b (bodies U) → BodyOn b) → ((b : Body) → Memᴰ b U.constraints → BodyOn b)
      → (c : Clause) → Memᴰ c (clauses U) → (l : Literal) → Memᴰ l c → Q (variable_of l)
  unfolding clauses variables constraint_clause
  on_clauses U qc qd qb qk =
      all_append (copies_clauses (suc (length U.copies)) U.copies) (map constraint_clause U.constraints)
      (on_copies (suc (length U.copies)) U.copies qc (λ v l h. qd v l (omega arith)) (λ c m b k. qb b (flat_map_in (λ (c : Copy). c.kept) U.copies c b m k)))
      (λ c m. let u = Memᴰ.of_map constraint_clause U.constraints m in subst On u.2 (on_negated (literals u.0) (on_literals u.0 (qk u.0 u.1))))

read_literal : (l : Literal) → 1 ≤ variable_of l → (c : Clause) (cs : List Clause) → read_word (signed l) (c ∷ cs) ≡ (l ∷ c) ∷ cs
unfolding read_word signed in_front variable_of
read_literal (positive zero) p c cs = absurd (not-suc-le-zero p)
read_literal (positive (suc v)) p c cs = refl
read_literal (negative zero) p c cs = absurd (not-suc-le-zero p)
read_literal (negative (suc v)) p c cs = refl

read_clause : (c : Clause) → ((l : Literal) → Memᴰ l c → 1 ≤ variable_of l) → (ws : List ℤ) → read_words (clause_words c ++ ws) ≡ c ∷ read_words ws
unfolding clause_words read_words read_word
read_clause [] p ws = refl
read_clause (l ∷ c) p ws = ap (read_word (signed l)) (read_clause c (λ x m. p x (Memᴰ.tail m)) ws) ∙ read_literal l (p l (Memᴰ.head refl)) c (read_words ws)

-- Words of clauses whose variables are above 0, split at 0.
pub read_words_lem : (cs : List Clause) → ((c : Clause) → Memᴰ c cs → (l : Literal) → Memᴰ l c → 1 ≤ variable_of l) → read_words (signed_words cs) ≡ cs
unfolding signed_words flat_map read_words
read_words_lem [] p = refl
read_words_lem (c ∷ cs) p =
    read_clause c (p c (Memᴰ.head refl)) (signed_words cs) ∙ ap (λ (ds : List Clause). c ∷ ds) (read_words_lem cs (λ d m. p d (Memᴰ.tail m)))
