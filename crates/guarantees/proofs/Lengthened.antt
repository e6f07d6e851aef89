-- Sequences may be lengthened, of every service that meets demand 1.
use mathlib.Core.Bool.{true}
use mathlib.Core.List.{List, [], ◌∷◌}
use mathlib.Core.Path.{◌≡◌, refl, sym, ◌∙◌, ap, subst}
use Prim.Native.Nat.{ℕ}
use lib.IntN.{ℤ}
use lib.ListN.{take}
use Rattle.asp.specs.Program.{Program, State}
use Rattle.unfolding.specs.Unfolded.{Unfolded}
use Rattle.unfolding.specs.Decoded.{read_unfolded, named}
use Rattle.unfolding.specs.Clauses.{read_words}
use Rattle.unfolding.specs.Faithful.{Assignment, is_model, clauses_of}
use Rattle.unfolding.specs.Lengthened.{ProjectedModel, SameProjections, LaterCopiesTrue}
use Rattle.unfolding.proofs.Chains.{passes_iff}
use Rattle.unfolding.proofs.Claims.{atoms_are_entries, lengthened_passes, copies_grow}
use Rattle.sheet.specs.Questions.{ask}
use Rattle.sheet.specs.Format.{atoms_byte}
use Rattle.sheet.specs.Sequence.{entries}
use Rattle.sheet.specs.Sheet.{program}
use Rattle.sheet.specs.declared.Limits.{Limits}
use Rattle.sheet.proofs.Questions.{first_yes}
use Rattle.choice.specs.Written.{WrittenFaithful}
use Rattle.operations.specs.Outcome.{answered}
use Rattle.operations.specs.Calls.{naturals, integers, questions, Service, Promised}
use Rattle.operations.specs.Calls as call
use Rattle.operations.proofs.Promises.{promised_passed}
use Rattle.guarantees.specs.Demands.{Demand1, Accepted}
use Rattle.guarantees.specs.Lengthened.{Lengthened, LengthenedSequences}
use Rattle.guarantees.proofs.Calls.{kept, demand_1}
use Rattle.guarantees.proofs.Accepting.{input_passed, test_passed, test_passes}
use Rattle.guarantees.proofs.Demands.{accepted_passes, accepted_both, test_answered, written_faithful, demand_2_of, demand_3_of}

-- Clauses that are faithful to one program have the same cuts of models, whatever the sequences.
module _ (n : ℕ) (P : Program) where
  projected_again : (s t : List ℕ) → WrittenFaithful n P s → WrittenFaithful n P t → (X : State) → ProjectedModel n (clauses_of P s) X → ProjectedModel n (clauses_of P t) X
  projected_again s t F G X m =
      let p = F.projects m.0 m.1 in
      let g = G.lifts p.0 p.1 in
      (g.0, g.1, g.2 ∙ (sym p.2 ∙ m.2))

  same_projections : (s t : List ℕ) → WrittenFaithful n P s → WrittenFaithful n P t → SameProjections n (clauses_of P s) (clauses_of P t)
  same_projections s t F G X = (projected_again s t F G X, projected_again t s G F X)

module _ (L : Limits) (s q : List ℕ) (y : Accepted L s q) where
  lengthened_accepted : (longer : List ℕ) → Lengthened L s q longer → Accepted L s longer
  unfolding ask
  lengthened_accepted longer K =
      let both = accepted_both L s q y in
      let sheet = (input_passed L s q (test_passed L s q (accepted_passes L s q y)).0).0 in
      let found = lengthened_passes (program s) (entries q) (entries longer) K.inserted both.found in
      first_yes (questions L (call.test s longer))
      (test_passes L s longer sheet K.formed K.taken (rw ((passes_iff (program s) both.program (entries longer)).1 found) refl))

  accepted_projections : (t : List ℕ) → Accepted L s t → SameProjections (atoms_byte s) (clauses_of (program s) (entries q)) (clauses_of (program s) (entries t))
  accepted_projections t z = same_projections (atoms_byte s) (program s) (entries q) (entries t) (written_faithful L s q y) (written_faithful L s t z)

module _ (L : Limits) (S : Service) (D : Demand1 L S) where
  written_projections : (s q t : List ℕ) (old new old' new' : List ℤ) (l v c l' v' c' : ℕ) → S (call.clauses s q old) (answered (l ∷ v ∷ c ∷ [])) (integers new)
      → S (call.clauses s t old') (answered (l' ∷ v' ∷ c' ∷ [])) (integers new') → SameProjections (atoms_byte s) (read_words (take l new)) (read_words (take l' new'))
  written_projections s q t old new old' new' l v c l' v' c' A B =
      let demand_2 = demand_2_of L S D in
      let demand_3 = demand_3_of L S D in
      subst (λ cs. SameProjections (atoms_byte s) cs (read_words (take l' new'))) (sym (demand_2.derives s q old new l v c A).derived)
      (subst (SameProjections (atoms_byte s) (clauses_of (program s) (entries q))) (sym (demand_2.derives s t old' new' l' v' c' B).derived)
      (accepted_projections L s q (demand_3.accepted s q old new l v c A) t (demand_3.accepted s t old' new' l' v' c' B)))

  written_later : (s q old new : List ℕ) (l : ℕ) (old' new' : List ℤ) (l' v c : ℕ) → S (call.unfolded s q old) (answered (l ∷ [])) (naturals new)
      → S (call.clauses s q old') (answered (l' ∷ v ∷ c ∷ [])) (integers new') → (M : Assignment) → is_model M (read_words (take l' new')) ≡ true
      → LaterCopiesTrue (named (entries q) (read_unfolded (take l new)).copies) M
  written_later s q old new l old' new' l' v c U A M m =
      let demand_2 = demand_2_of L S D in
      let y = (demand_3_of L S D).accepted s q old' new' l' v c A in
      let model = ap (is_model M) (sym (demand_2.derives s q old' new' l' v c A).derived) ∙ m in
      let same = ap (λ (U : Unfolded). named (entries q) U.copies) (demand_2.unfolds s q old new l U).derived ∙ atoms_are_entries (program s) (entries q) in
      subst (λ cs. LaterCopiesTrue cs M) (sym same) (copies_grow (program s) (accepted_both L s q y).program (entries q) M model)

  pub lengthened_of : LengthenedSequences L S
  lengthened_of =
      record {
        accepted = λ s q longer y K. lengthened_accepted L s q y longer K;
        tested = λ s q longer o b c T K A. test_answered L S D s longer o c A (lengthened_accepted L s q (first_yes (questions L (call.test s q)) (promised_passed L _ b _ (kept L S D _ _ b T))) longer K);
        projections = λ s q longer y K. accepted_projections L s q y longer (lengthened_accepted L s q y longer K);
        written = written_projections;
        later = λ s q y. copies_grow (program s) (accepted_both L s q y).program (entries q);
        later_written = written_later;
      }

pub lengthened_sequences : (L : Limits) → LengthenedSequences L (Promised L)
lengthened_sequences L = lengthened_of L (Promised L) (demand_1 L)
