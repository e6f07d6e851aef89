-- The three demands of what C sees of the office.
use Rattle.guarantees.specs.Demands.{Demand1, Demand2, Demand3, TextForSolvers, MissingChains}
use Rattle.guarantees.specs.Lengthened.{LengthenedSequences}
use Rattle.guarantees.specs.Claims.{Shorter}
use Rattle.interface.specs.Seen.{Seen, NumbersKept}
use Rattle.interface.proofs.Demands as interface
use Rattle.guarantees.specs.Services.{NeverTooLarge}
use Rattle.guarantees.proofs.Services.{never_too_large}
use Rattle.office.specs.Office.{office}
use Rattle.office.proofs.Laws.{office_whole}

-- The demands of the C interface.
pub seen_demand_1 : Demand1 office (Seen office)
seen_demand_1 = interface.seen_demand_1 office

pub seen_demand_2 : Demand2 office (Seen office)
seen_demand_2 = interface.seen_demand_2 office

pub seen_demand_3 : Demand3 office (Seen office)
seen_demand_3 = interface.seen_demand_3 office

-- What a solver reads of the text that C sees.
pub seen_text_for_solvers : TextForSolvers (Seen office)
seen_text_for_solvers = interface.seen_text_for_solvers office

-- What the missing chains that C sees are.
pub seen_missing_chains : MissingChains (Seen office)
seen_missing_chains = interface.seen_missing_chains office

-- What an author keeps who lengthens a sequence, as C sees it.
pub seen_lengthened_sequences : LengthenedSequences office (Seen office)
seen_lengthened_sequences = interface.seen_lengthened_sequences office

-- What C sees written is shortened.
pub seen_shorter : Shorter (Seen office)
seen_shorter = interface.seen_shorter office

-- On a refusal the lent numbers are as they were.
pub numbers_kept : NumbersKept office
numbers_kept = interface.numbers_kept office

-- The office never refuses by 15 or by 16.
pub seen_never_too_large : NeverTooLarge (Seen office)
seen_never_too_large = never_too_large office office_whole (Seen office) seen_demand_1
