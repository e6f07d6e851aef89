-- How many words, variables and clauses there are.
use mathlib.Core.List.{List, [], ◌∷◌, map, flat_map}
use mathlib.Core.Path.{◌≡◌, refl, ◌∙◌, ap}
use Prim.Native.Nat.{ℕ, suc, ◌+◌, ◌-◌, ◌*◌}
use native.Mathlib.Omega.{arith}
use lib.ListN.{length, length-append, length-map}
use Rattle.lists.specs.Lists.{range}
use Rattle.asp.specs.Program.{Body}
use Rattle.unfolding.specs.Unfolded.{Copy, Unfolded}
use Rattle.unfolding.specs.Clauses.{Literal, positive, negative, negated, Clause, literals, rule_clauses, rules_clauses, copy_clauses, copies_clauses, constraint_clause, clauses, variables, clause_words, signed_words}
use Rattle.program.specs.inner.Held.{ProgramTable}
use Rattle.copies.specs.inner.Bodies.{atom_count, kept_bodies}
use Rattle.copies.specs.inner.Ready.{Ready, unfolded_in}
use Rattle.copies.proofs.Keeping.{atoms_append}
use Rattle.copies.proofs.Sizes.{copies_number}
use Rattle.totals.specs.inner.Totals.{TotalsOf}
use Rattle.totals.specs.declared.Totals.{Totals}
use Rattle.rule_clauses.specs.inner.Literals.{body_pairs}
use Rattle.rule_clauses.proofs.Rule.{signed_append, rule_size}
use Rattle.copy_clauses.proofs.Copy.{clause_words_lem, first_words_lem}
use Rattle.clause_sizes.specs.inner.Numbers.{NumbersOf}

-- A body has as many literals as atoms.
literals_size : (b : Body) → length (literals b) ≡ length b.pos + length b.neg
unfolding literals
literals_size b =
    let e = length-append (map positive b.pos) (map negative b.neg) in
    let f = length-map {B = Literal} b.pos positive in
    let g = length-map {B = Literal} b.neg negative in
    omega arith

-- The clauses of a constraint, of a rule, of rules.
back_words_lem : (b : Body) → length (clause_words (constraint_clause b)) ≡ length b.pos + length b.neg + 1
unfolding constraint_clause
back_words_lem b = let e = clause_words_lem (map negated (literals b)) in let f = length-map {B = Literal} (literals b) negated in let g = literals_size b in omega arith

pairs_words_lem : (d : ℕ) (ls : List Literal) → length (signed_words (map (λ l. negative d ∷ l ∷ []) ls)) ≡ 3 * length ls
unfolding signed_words flat_map clause_words
pairs_words_lem d [] = refl
pairs_words_lem d (l ∷ ls) = let e = pairs_words_lem d ls in omega arith

rule_words_lem : (h d : ℕ) (b : Body) → length (signed_words (rule_clauses h d b)) ≡ 4 * (length b.pos + length b.neg) + 5
unfolding body_pairs
rule_words_lem h d b = let e = rule_size h d b in let f = pairs_words_lem d (literals b) in let g = literals_size b in let k = back_words_lem b in omega arith

rule_count : (h d : ℕ) (b : Body) → length (rule_clauses h d b) ≡ length b.pos + length b.neg + 2
unfolding rule_clauses
rule_count h d b =
    let g : Literal → Clause = λ l. negative d ∷ l ∷ [] in
    let e = length-map (literals b) g in
    let f = literals_size b in
    let a = length-append (map g (literals b)) ((positive d ∷ map negated (literals b)) ∷ []) in
    omega arith

rules_words_lem : (h d : ℕ) (bs : List Body) → length (signed_words (rules_clauses h d bs)) ≡ 5 * length bs + 4 * atom_count bs
unfolding rules_clauses signed_words flat_map atom_count
rules_words_lem h d [] = refl
rules_words_lem h d (b ∷ bs) =
    let e = ap length (signed_append (rule_clauses h d b) (rules_clauses h (suc d) bs)) ∙ length-append (signed_words (rule_clauses h d b)) (signed_words (rules_clauses h (suc d) bs)) in
    let f = rule_words_lem h d b in
    let g = rules_words_lem h (suc d) bs in
    omega arith

rules_count : (h d : ℕ) (bs : List Body) → length (rules_clauses h d bs) ≡ 2 * length bs + atom_count bs
unfolding rules_clauses atom_count
rules_count h d [] = refl
rules_count h d (b ∷ bs) =
    let e = length-append (rule_clauses h d b) (rules_clauses h (suc d) bs) in
    let f = rule_count h d b in
    let g = rules_count h (suc d) bs in
    omega arith

-- The clauses of a copy, of copies, of constraints.
copy_words_lem : (d : ℕ) (c : Copy) → length (signed_words (copy_clauses d c)) ≡ 2 + 6 * length c.kept + 4 * atom_count c.kept
unfolding copy_clauses signed_words flat_map
copy_words_lem d c =
    let e = length-append (clause_words (negative c.var ∷ map positive (range d (length c.kept)))) (signed_words (rules_clauses c.var d c.kept)) in
    let f = first_words_lem c.var d (length c.kept) in
    let g = rules_words_lem c.var d c.kept in
    omega arith

pub copies_words_lem : (d : ℕ) (cs : List Copy) → length (signed_words (copies_clauses d cs)) ≡ 2 * length cs + 6 * length (kept_bodies cs) + 4 * atom_count (kept_bodies cs)
unfolding copies_clauses signed_words flat_map atom_count
copies_words_lem d [] = refl
copies_words_lem d (c ∷ cs) =
    let rest = copies_clauses (d + length c.kept) cs in
    let e = ap length (signed_append (copy_clauses d c) rest) ∙ length-append (signed_words (copy_clauses d c)) (signed_words rest) in
    let f = copy_words_lem d c in
    let g = copies_words_lem (d + length c.kept) cs in
    let h = length-append c.kept (kept_bodies cs) in
    let i = atoms_append c.kept (kept_bodies cs) in
    omega arith

copies_count : (d : ℕ) (cs : List Copy) → length (copies_clauses d cs) ≡ length cs + 2 * length (kept_bodies cs) + atom_count (kept_bodies cs)
unfolding copies_clauses copy_clauses flat_map atom_count
copies_count d [] = refl
copies_count d (c ∷ cs) =
    let e = length-append (copy_clauses d c) (copies_clauses (d + length c.kept) cs) in
    let f = rules_count c.var d c.kept in
    let g = copies_count (d + length c.kept) cs in
    let h = length-append c.kept (kept_bodies cs) in
    let i = atoms_append c.kept (kept_bodies cs) in
    omega arith

pub constraints_words : (bs : List Body) → length (signed_words (map constraint_clause bs)) ≡ length bs + atom_count bs
unfolding signed_words flat_map atom_count
constraints_words [] = refl
constraints_words (b ∷ bs) =
    let e = length-append (clause_words (constraint_clause b)) (signed_words (map constraint_clause bs)) in
    let f = back_words_lem b in
    let g = constraints_words bs in
    omega arith

-- The whole.
module _ (t : ProgramTable) (components q : List ℕ) (R : Ready t components q) where
  abbrev U : Unfolded
  U = unfolded_in t q

  abbrev start : ℕ
  start = suc (length U.copies)

  words_are : length (signed_words (clauses U)) ≡ length (signed_words (copies_clauses start U.copies)) + length (signed_words (map constraint_clause U.constraints))
  unfolding clauses
  words_are =
      ap length (signed_append (copies_clauses start U.copies) (map constraint_clause U.constraints))
      ∙ length-append (signed_words (copies_clauses start U.copies)) (signed_words (map constraint_clause U.constraints))

  clauses_are : length (clauses U) ≡ length (copies_clauses start U.copies) + length U.constraints
  unfolding clauses
  clauses_are =
      let e = length-append (copies_clauses start U.copies) (map constraint_clause U.constraints) in
      let f = length-map {B = Clause} U.constraints constraint_clause in
      omega arith

  module _ (k : Totals) (T : TotalsOf U k) where
    pub numbers_are : NumbersOf U (record { words = 2 * (length q - 3) + 6 * k.rules + 4 * k.atoms + k.constraints + k.literals; variables = length q - 3 + k.rules; clauses = length q - 3 + 2 * k.rules + k.atoms + k.constraints })
    unfolding variables
    numbers_are =
        let a = copies_words_lem start U.copies in
        let b = copies_count start U.copies in
        let c = constraints_words U.constraints in
        let d = words_are in
        let e = clauses_are in
        let f = copies_number t components q R in
        let g = T.kept.rules in
        let h = T.kept.atoms in
        let i = T.constraints in
        let j = T.literals in
        record { words = omega arith; variables = omega arith; clauses = omega arith }
