-- The proof of each claim.
use Rattle.choice.specs.Claims.{ExpandedIsFormed, WithoutChoices, WrittenDecide, FaithfulOverWritten, FaithfulIsOld, CountIsWritten}
use Rattle.choice.proofs.Expanded.{expanded_formed, without_choices}
use Rattle.choice.proofs.Unique.{written_decide, faithful_over_written, faithful_is_old}
use Rattle.choice.proofs.Number.{count_written}

pub expanded_is_formed : ExpandedIsFormed
expanded_is_formed = expanded_formed

pub programs_without_choices : WithoutChoices
programs_without_choices = without_choices

pub written_atoms_decide : WrittenDecide
written_atoms_decide = written_decide

pub faithful_gives_written : FaithfulOverWritten
faithful_gives_written = faithful_over_written

pub written_faithful_is_old : FaithfulIsOld
written_faithful_is_old = faithful_is_old

pub count_is_written : CountIsWritten
count_is_written = count_written
