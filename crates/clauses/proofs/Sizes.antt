-- The words of the clauses are at least twice as many as the variables, and no fewer than the clauses.
use mathlib.Core.List.{List, [], ◌∷◌, map, flat_map}
use mathlib.Core.Path.{◌∙◌, ap}
use Prim.Native.Nat.{ℕ, suc, ◌*◌, ◌≤◌}
use native.Mathlib.Omega.{arith}
use lib.IntN.{pos}
use lib.ListN.{length, length-append}
use Rattle.asp.specs.Program.{Program}
use Rattle.unfolding.specs.Unfolded.{Unfolded, unfolded}
use Rattle.unfolding.specs.Clauses.{Clause, copies_clauses, constraint_clause, clauses, variables, signed, clause_words, signed_words}
use Rattle.unfolding.specs.Faithful.{clauses_of, variables_of}
use Rattle.rule_clauses.proofs.Rule.{signed_append}
use Rattle.clause_sizes.proofs.Sizes.{copies_words_lem}

twice : (U : Unfolded) → 2 * variables U ≤ length (signed_words (clauses U))
unfolding clauses variables
twice U =
    let d = suc (length U.copies) in
    let behind = map constraint_clause U.constraints in
    let e = ap length (signed_append (copies_clauses d U.copies) behind) ∙ length-append (signed_words (copies_clauses d U.copies)) (signed_words behind) in
    let f = copies_words_lem d U.copies in
    omega arith

pub variables_few : (P : Program) (s : List ℕ) → 2 * variables_of P s ≤ length (signed_words (clauses_of P s))
unfolding variables_of clauses_of
variables_few P s = twice (unfolded P s)

pub clauses_few : (cs : List Clause) → length cs ≤ length (signed_words cs)
unfolding signed_words flat_map clause_words
clauses_few [] = omega arith
clauses_few (c ∷ cs) =
    let e = length-append (clause_words c) (signed_words cs) in
    let f = length-append (map signed c) (pos 0 ∷ []) in
    let g = clauses_few cs in
    omega arith
