-- The demands of the office, and what else is proved of its operations.
use Rattle.std.specs.Prelude.{ℕ, ◌≤◌, List, length}
use lib.Dec.{lit<, lit≤}
use Rattle.operations.specs.Outputs.{lparse_output, missing_output}
use Rattle.sheet.specs.Questions.{AllYes}
use Rattle.operations.specs.Questions.{sheet_questions}
use Rattle.operations.specs.Calls.{Promised}
use Rattle.guarantees.specs.Demands.{Demand1, Demand2, Demand3, TextForSolvers, MissingChains, DefaultAccepted}
use Rattle.guarantees.specs.Services.{WholeFormat, NeverTooLarge}
use Rattle.guarantees.specs.Lengthened.{LengthenedSequences}
use Rattle.guarantees.specs.Claims.{Shorter}
use Rattle.guarantees.proofs.Calls.{demand_1}
use Rattle.guarantees.proofs.Default.{default_accepted}
use Rattle.guarantees.proofs.Demands.{demand_2, demand_3, text_for_solvers, missing_chains_lem}
use Rattle.guarantees.proofs.Services.{never_too_large}
use Rattle.guarantees.proofs.Lengthened.{lengthened_sequences}
use Rattle.guarantees.proofs.Claims.{outputs_shorten, lparse_fits, missing_fits}
use Rattle.office.specs.Office.{office}

-- The office takes all that the format allows, so that it never refuses by 15 or by 16.
pub office_whole : WholeFormat office
office_whole = record { atoms = lit≤ tt; component = lit≤ tt; entries = lit≤ tt }

pub office_never_too_large : NeverTooLarge (Promised office)
office_never_too_large = never_too_large office office_whole (Promised office) (demand_1 office)

-- What the office's default sequence writes is accepted by questions 8, 16 and 9.
pub office_default_accepted : DefaultAccepted office
office_default_accepted = default_accepted office (lit≤ tt) (lit≤ tt) (lit< tt)

-- The three demands of the office's operations.
pub office_demand_1 : Demand1 office (Promised office)
office_demand_1 = demand_1 office

pub office_demand_2 : Demand2 office (Promised office)
office_demand_2 = demand_2 office

pub office_demand_3 : Demand3 office (Promised office)
office_demand_3 = demand_3 office

-- What a solver reads of the office's text.
pub office_text_for_solvers : TextForSolvers (Promised office)
office_text_for_solvers = text_for_solvers office

-- What the office's missing chains are.
pub office_missing_chains : MissingChains (Promised office)
office_missing_chains = missing_chains_lem office

-- What an author keeps who lengthens a sequence of the office.
pub office_lengthened_sequences : LengthenedSequences office (Promised office)
office_lengthened_sequences = lengthened_sequences office

-- What the office writes is shortened.
pub office_shorter : Shorter (Promised office)
office_shorter = outputs_shorten office (Promised office) office_demand_1

-- No lparse text of the office is longer than this.
pub office_lparse_fits : (s : List ℕ) → AllYes (sheet_questions office s) → length (lparse_output s) ≤ 49088
office_lparse_fits = lparse_fits office (lit≤ tt) (lit≤ tt)

-- Nor has a missing chain more atoms than ten.
pub office_missing_fits : (s q : List ℕ) → AllYes (sheet_questions office s) → length (missing_output s q) ≤ 10
office_missing_fits = missing_fits office
