-- A sheet without choice rules is what it was, what is written is no longer than it was, lparse text fits, and so does a missing chain.
use mathlib.Core.Bool.{true, ◌&&◌, or-false}
use mathlib.Core.List.{List, [], ◌∷◌, map, Forall₂, cons≢nil}
use mathlib.Core.Path.{◌≡◌, refl, sym, ◌∙◌, subst}
use Prim.Native.Nat.{ℕ, ◌+◌, ◌≤◌}
use native.Mathlib.Omega.{arith}
use borrow.Author.Tests.{le-leb, leb-true}
use lib.Dec.{eqb, leb}
use lib.IntN.{ℤ}
use lib.ListN.{length, take}
use Rattle.lists.specs.Lists.{any, filter, member, range}
use Rattle.lists.proofs.Bools.{by_bool, and_left}
use Rattle.lists.proofs.Members.{any_filter, any_map, filter_cong}
use Rattle.asp.specs.Program.{Rule}
use Rattle.unfolding.specs.Graph.{component}
use Rattle.unfolding.specs.Chain.{Chain}
use Rattle.unfolding.specs.Missing.{missing_chain}
use Rattle.unfolding.specs.Unfolded.{Unfolded, unfolded, words}
use Rattle.unfolding.specs.Decoded.{read_unfolded, nameless}
use Rattle.unfolding.specs.Clauses.{clauses, variables, signed_words}
use Rattle.unfolding.specs.Faithful.{clauses_of, variables_of}
use Rattle.unfolding.specs.Shortened.{unshortened, Shortens, Shortened}
use Rattle.unfolding.proofs.Default.{chain_few, chain_named}
use Rattle.unfolding.proofs.Shortened.{nameless_shortens}
use Rattle.unfolding.proofs.Claims.{missing_is_there, missing_is_shortest, unfolded_is_shortened}
use Rattle.sheet.specs.Questions.{ask}
use Rattle.sheet.specs.Format.{atoms_byte, records_byte, limited}
use Rattle.sheet.specs.Sequence.{entries}
use Rattle.sheet.specs.Sheet.{Record, rule_in, records, choices, program_of, program}
use Rattle.sheet.specs.declared.Limits.{Limits}
use Rattle.sheet.proofs.Questions.{yes_first}
use Rattle.sheet.proofs.Walk.{records_sound, records_ordered, records_few}
use Rattle.components.proofs.Graphs.{fits_members}
use Rattle.choice.specs.Claims.{plain_program}
use Rattle.choice.proofs.Expanded.{without_choices}
use Rattle.choice.proofs.Unique.{faithful_is_old}
use Rattle.counting.specs.DecisionAtoms.{asks_for, decision_atoms}
use Rattle.lparse_format.proofs.Longest.{text_short}
use Rattle.operations.specs.Outcome.{answered}
use Rattle.operations.specs.Outputs.{lparse_output, missing_output, unfolded_output, clauses_output, clause_numbers}
use Rattle.operations.specs.Questions.{question13, sheet_questions}
use Rattle.operations.specs.Calls.{naturals, integers, describe, Service}
use Rattle.operations.specs.Calls as call
use Rattle.operations.proofs.Questions.{sheet_passed}
use Rattle.operations.proofs.Promises.{promised_values}
use Rattle.guarantees.specs.Demands.{Demand1}
use Rattle.guarantees.specs.Claims.{negated_atoms, OldAnswersStay, OutputsShorten, LparseFits, MissingFits}
use Rattle.guarantees.proofs.Calls.{kept}
use Rattle.guarantees.proofs.Accepting.{program_accepted}
use Rattle.guarantees.proofs.Demands.{demand_2_of}

-- What records ask for where none is a choice rule.
asks_plain : (rs : List Record) (a : ℕ) → choices rs ≡ 0 → any (λ r. asks_for r a) rs ≡ any (λ r. eqb r.kind 0 && member a r.body.neg) rs
unfolding choices filter any asks_for
asks_plain [] a e = refl
asks_plain (r ∷ rs) a e =
    by_bool (eqb r.kind 2) (λ t. absurd (let z = rw t at e in omega arith))
    (λ f. rw (f, or-false (eqb r.kind 0), or-false (eqb r.kind 0 && member a r.body.neg), asks_plain rs a (rw f at e)) refl)

negated_plain : (rs : List Record) (a : ℕ)
    → any (λ q. member a q.body.neg) (map rule_in (filter (λ r. eqb r.kind 0) rs)) ≡ any (λ r. eqb r.kind 0 && member a r.body.neg) rs
negated_plain rs a =
    any_map (λ (q : Rule). member a q.body.neg) rule_in (filter (λ r. eqb r.kind 0) rs)
    ∙ any_filter (λ (r : Record). member a r.body.neg) (λ r. eqb r.kind 0) rs

module _ (L : Limits) (s : List ℕ) (none : choices (records s) ≡ 0) where
  same : program s ≡ plain_program (atoms_byte s) (records s)
  unfolding program
  same = without_choices (atoms_byte s) (records s) none

  eleven : decision_atoms (atoms_byte s) (records s) ≡ negated_atoms (program s)
  unfolding decision_atoms negated_atoms plain_program
  eleven =
      rw same (filter_cong (λ a. any (λ r. asks_for r a) (records s)) (λ a. any (λ q. member a q.body.neg) (plain_program (atoms_byte s) (records s)).rules) (range 0 (atoms_byte s))
      (λ a _. asks_plain (records s) a none ∙ sym (negated_plain (records s) a)))

  thirteen : limited L s ≡ true → question13 L s ≡ 0
  unfolding ask limited
  thirteen three =
      let low = leb-true (atoms_byte s) L.atoms (and_left (leb (atoms_byte s) L.atoms) (leb (records_byte s) L.records) three) in
      rw (le-leb (atoms_byte s + choices (records s)) L.atoms (omega arith)) refl

pub old_answers_stay : OldAnswersStay
unfolding program
old_answers_stay L s none =
    record { same = same L s none; thirteen = thirteen L s none; eleven = eleven L s none; faithful = faithful_is_old (atoms_byte s) (records s) none }

-- What is written is shortened.
module _ (L : Limits) (S : Service) (D : Demand1 L S) (s q : List ℕ) where
  abbrev was : Unfolded
  was = unshortened (program s) (entries q)

  shorter : Shortened (program s) (entries q)
  shorter = unfolded_is_shortened (program s) (entries q)

  unfolded_shorter : (old new : List ℕ) (l : ℕ) → S (call.unfolded s q old) (answered (l ∷ [])) (naturals new)
      → Forall₂ Shortens (read_unfolded (take l new)).copies (nameless was).copies × (l ≤ length (words was))
  unfolding describe unfolded_output nameless
  unfolded_shorter old new l A =
      let size : l ≡ length (words (unfolded (program s) (entries q))) = cc (promised_values L _ _ _ (kept L S D _ _ _ A)) in
      let back = ((demand_2_of L S D).unfolds s q old new l A).derived in
      let few = shorter.fewer_words in
      (subst (λ (U : Unfolded). Forall₂ Shortens U.copies (nameless was).copies) (sym back) (nameless_shortens shorter.copies), omega arith)

  clauses_shorter : (old new : List ℤ) (l v c : ℕ) → S (call.clauses s q old) (answered (l ∷ v ∷ c ∷ [])) (integers new)
      → (l ≤ length (signed_words (clauses was))) × (v ≤ variables was) × (c ≤ length (clauses was))
  unfolding describe clauses_output clause_numbers clauses_of variables_of
  clauses_shorter old new l v c A =
      let U = unfolded (program s) (entries q) in
      let same : answered (l ∷ v ∷ c ∷ []) ≡ answered (length (signed_words (clauses U)) ∷ variables U ∷ length (clauses U) ∷ []) = promised_values L _ _ _ (kept L S D _ _ _ A) in
      let size : l ≡ length (signed_words (clauses U)) = cc same in
      let variable : v ≡ variables U = cc same in
      let number : c ≡ length (clauses U) = cc same in
      let few_words = shorter.fewer_signed_words in
      let few_variables = shorter.fewer_variables in
      let few_clauses = shorter.fewer_clauses in
      (omega arith, omega arith, omega arith)

pub outputs_shorten : OutputsShorten
outputs_shorten L S D = record { unfolds = λ s q. unfolded_shorter L S D s q; derives = λ s q. clauses_shorter L S D s q }

pub lparse_fits : LparseFits
unfolding lparse_output program program_of
lparse_fits L a r s y =
    let P = sheet_passed L s (yes_first (sheet_questions L s) y) in
    text_short (atoms_byte s) (records s) (records_sound L s P.form) (records_ordered L s P.form) (omega (arith, P.atoms)) (omega (arith, records_few L s P.form))

pub missing_fits : MissingFits
unfolding missing_output
missing_fits L s q y = short (missing_chain (program s) (entries q)) refl
  where
    short : (w : List ℕ) → w ≡ missing_chain (program s) (entries q) → length w ≤ L.taken.component
    short [] e = omega arith
    short (a ∷ w) e =
        let P = program s in
        let z = yes_first (sheet_questions L s) y in
        let wf = program_accepted L s z in
        let no = (missing_is_there P wf (entries q)).0 (λ n. cons≢nil (e ∙ n)) in
        let C = subst (Chain P) (sym e) (missing_is_shortest P wf (entries q) no).chain in
        let few = chain_few P wf a w C in
        let fits = fits_members P L.taken.component (sheet_passed L s z).taken_components (component P a) (chain_named P wf a w C) in
        omega arith
