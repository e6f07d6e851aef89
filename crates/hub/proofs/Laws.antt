-- The demands of the hub, and what else is proved of its operations.
use Rattle.std.specs.Prelude.{ℕ, ◌≤◌, List, length}
use lib.Dec.{lit<, lit≤}
use Rattle.operations.specs.Outputs.{missing_output}
use Rattle.sheet.specs.Questions.{AllYes}
use Rattle.operations.specs.Questions.{sheet_questions}
use Rattle.operations.specs.Calls.{Promised}
use Rattle.guarantees.specs.Demands.{Demand1, Demand2, Demand3, TextForSolvers, MissingChains, DefaultAccepted}
use Rattle.guarantees.specs.Lengthened.{LengthenedSequences}
use Rattle.guarantees.specs.Claims.{Shorter}
use Rattle.guarantees.proofs.Calls.{demand_1}
use Rattle.guarantees.proofs.Default.{default_accepted}
use Rattle.guarantees.proofs.Demands.{demand_2, demand_3, text_for_solvers, missing_chains_lem}
use Rattle.guarantees.proofs.Lengthened.{lengthened_sequences}
use Rattle.guarantees.proofs.Claims.{outputs_shorten, missing_fits}
use Rattle.hub.specs.Hub.{hub}

-- What the hub's default sequence writes is accepted by questions 8, 16 and 9.
pub hub_default_accepted : DefaultAccepted hub
hub_default_accepted = default_accepted hub (lit≤ tt) (lit≤ tt) (lit< tt)

-- The three demands of the hub's operations.
pub hub_demand_1 : Demand1 hub (Promised hub)
hub_demand_1 = demand_1 hub

pub hub_demand_2 : Demand2 hub (Promised hub)
hub_demand_2 = demand_2 hub

pub hub_demand_3 : Demand3 hub (Promised hub)
hub_demand_3 = demand_3 hub

-- What a solver reads of the hub's text.
pub hub_text_for_solvers : TextForSolvers (Promised hub)
hub_text_for_solvers = text_for_solvers hub

-- What the hub's missing chains are.
pub hub_missing_chains : MissingChains (Promised hub)
hub_missing_chains = missing_chains_lem hub

-- What an author keeps who lengthens a sequence of the hub.
pub hub_lengthened_sequences : LengthenedSequences hub (Promised hub)
hub_lengthened_sequences = lengthened_sequences hub

-- What the hub writes is shortened.
pub hub_shorter : Shorter (Promised hub)
hub_shorter = outputs_shorten hub (Promised hub) hub_demand_1

-- No missing chain of the hub has more atoms than four.
pub hub_missing_fits : (s q : List ℕ) → AllYes (sheet_questions hub s) → length (missing_output s q) ≤ 4
hub_missing_fits = missing_fits hub
