-- The three demands of what C sees of the hub.
use Rattle.guarantees.specs.Demands.{Demand1, Demand2, Demand3, TextForSolvers, MissingChains}
use Rattle.guarantees.specs.Lengthened.{LengthenedSequences}
use Rattle.guarantees.specs.Claims.{Shorter}
use Rattle.interface.specs.Seen.{Seen, NumbersKept}
use Rattle.interface.proofs.Demands as interface
use Rattle.hub.specs.Hub.{hub}

-- The demands of the C interface.
pub seen_demand_1 : Demand1 hub (Seen hub)
seen_demand_1 = interface.seen_demand_1 hub

pub seen_demand_2 : Demand2 hub (Seen hub)
seen_demand_2 = interface.seen_demand_2 hub

pub seen_demand_3 : Demand3 hub (Seen hub)
seen_demand_3 = interface.seen_demand_3 hub

-- What a solver reads of the text that C sees.
pub seen_text_for_solvers : TextForSolvers (Seen hub)
seen_text_for_solvers = interface.seen_text_for_solvers hub

-- What the missing chains that C sees are.
pub seen_missing_chains : MissingChains (Seen hub)
seen_missing_chains = interface.seen_missing_chains hub

-- What an author keeps who lengthens a sequence, as C sees it.
pub seen_lengthened_sequences : LengthenedSequences hub (Seen hub)
seen_lengthened_sequences = interface.seen_lengthened_sequences hub

-- What C sees written is shortened.
pub seen_shorter : Shorter (Seen hub)
seen_shorter = interface.seen_shorter hub

-- On a refusal the lent numbers are as they were.
pub numbers_kept : NumbersKept hub
numbers_kept = interface.numbers_kept hub
