-- The proof of each claim.
use Rattle.asp.specs.Claims.{DerivedIsLeast, StableIsAnswerSet, TestIsStable, StableAreListed, CountIsAnswerSets, AtomsAreHeads, AnswerSetsOccur, CountIsOccurring}
use Rattle.asp.proofs.Derived.{derived_least}
use Rattle.asp.proofs.Same.{stable_iff_answer, test_in, test_out}
use Rattle.asp.proofs.Counted.{stable_listed, count_answer_sets}
use Rattle.asp.proofs.Occurring.{atoms_heads, answer_iff_occurring, count_occurring}

pub derived_is_least : DerivedIsLeast
derived_is_least = derived_least

pub stable_is_answer_set : StableIsAnswerSet
stable_is_answer_set = stable_iff_answer

pub test_is_stable : TestIsStable
test_is_stable P w X within = (test_out P w X within, test_in P w X)

pub stable_are_listed : StableAreListed
stable_are_listed = stable_listed

pub count_is_answer_sets : CountIsAnswerSets
count_is_answer_sets = count_answer_sets

pub atoms_are_heads : AtomsAreHeads
atoms_are_heads = atoms_heads

pub answer_sets_occur : AnswerSetsOccur
answer_sets_occur = answer_iff_occurring

pub count_is_occurring : CountIsOccurring
count_is_occurring = count_occurring
