-- The proof of each claim.
use mathlib.Core.List.Sublistᴰ
use Rattle.unfolding.specs.Claims.{ReachIsLeast, EveryAtomInOne, NamedBySmallest, ChainsAreListed, TestIsPasses, MissingIsThere, MissingIsShortest, ShortestIsOnly, DefaultPasses, UnfoldedHasNoLoop, WordsAreUnfolded, WordsHaveNoLoop, AtomsAreEntries, UnfoldedIsShortened, ReadsKeptCopies, ClausesAreFaithful, LiteralsAreNumbered, WordsAreClauses, LengthenedPasses, CopiesGrow}
use Rattle.unfolding.proofs.Reach.{reach_induction, reach_refl, reach_edge, same_refl, component_of, component_only, component_shared, component_smallest}
use Rattle.unfolding.proofs.Chains.{chains_in, chains_out, passes_iff}
use Rattle.unfolding.proofs.Missing.{missing_there, missing_shortest, shortest_only}
use Rattle.unfolding.proofs.Default.{default_passes}
use Rattle.unfolding.specs.Unfolded.{unfolded}
use Rattle.unfolding.proofs.NoLoop.{no_positive_loop}
use Rattle.unfolding.proofs.Decoding.{words_unfolded, words_no_loop, nameless_named}
use Rattle.unfolding.proofs.Shortened.{shortened}
use Rattle.unfolding.proofs.Reading.{reads_kept}
use Rattle.unfolding.proofs.Theorem.{model_grows, faithful, literals_numbered, words_clauses}

pub reach_is_least : ReachIsLeast
reach_is_least P w =
    record {
      along = record { reflexive = reach_refl P w; closed = λ a b c l. reach_edge P w a l b c };
      least = λ R A a b l. reach_induction P w a l (R a) (A.reflexive a l) (λ c d _ r e. A.closed a c d l r e) b;
    }

pub every_atom_in_one : EveryAtomInOne
every_atom_in_one P w a l = record { own = component_of P w a l; holds_it = same_refl P w a l; only = λ C K c. component_only P w C K a c }

pub named_by_smallest : NamedBySmallest
named_by_smallest P w a l = record { inside = component_shared P w a l; smallest = λ b t. component_smallest P w a b l t }

pub chains_are_listed : ChainsAreListed
chains_are_listed P w c = (chains_out P w c, chains_in P c)

pub test_is_passes : TestIsPasses
test_is_passes = passes_iff

pub missing_is_there : MissingIsThere
missing_is_there = missing_there

pub missing_is_shortest : MissingIsShortest
missing_is_shortest = missing_shortest

pub shortest_is_only : ShortestIsOnly
shortest_is_only = shortest_only

pub default_is_found : DefaultPasses
default_is_found = default_passes

pub unfolded_has_no_loop : UnfoldedHasNoLoop
unfolded_has_no_loop = no_positive_loop

pub words_are_unfolded : WordsAreUnfolded
words_are_unfolded P s = words_unfolded (unfolded P s)

pub words_have_no_loop : WordsHaveNoLoop
words_have_no_loop P w s b = words_no_loop (unfolded P s) (no_positive_loop P w s b)

pub atoms_are_entries : AtomsAreEntries
atoms_are_entries = nameless_named

pub unfolded_is_shortened : UnfoldedIsShortened
unfolded_is_shortened = shortened

pub reads_kept_copies : ReadsKeptCopies
reads_kept_copies = reads_kept

pub clauses_are_faithful : ClausesAreFaithful
clauses_are_faithful P s A = faithful P A.program s A.entries A.found

pub literals_are_numbered : LiteralsAreNumbered
literals_are_numbered P s A = literals_numbered P A.program s A.entries A.found

pub words_are_clauses : WordsAreClauses
words_are_clauses P s A = words_clauses P A.program s A.entries A.found

pub lengthened_passes : LengthenedPasses
lengthened_passes P s longer inserted passes w C = Sublistᴰ.trans (passes w C) inserted

pub copies_grow : CopiesGrow
copies_grow = model_grows
