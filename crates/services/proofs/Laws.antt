-- Hub and office answer alike, but for 15 and 16: of their operations, and of what C sees.
use mathlib.Core.Path.{refl}
use lib.Dec.{lit≤}
use Rattle.operations.specs.Calls.{Promised}
use Rattle.guarantees.specs.Services.{OneFormat, Narrower, SameAnswers, SameBodies}
use Rattle.guarantees.proofs.Calls.{demand_1}
use Rattle.guarantees.proofs.Services.{one_service, same_bodies}
use Rattle.interface.specs.Seen.{Seen, SameShown}
use Rattle.interface.proofs.Demands.{seen_demand_1, same_shown}
use Rattle.office.specs.Office.{office}
use Rattle.hub.specs.Hub.{hub}

-- They are services of one format, and the hub takes no more than the office.
pub hub_format : OneFormat hub office
hub_format = record { atoms = refl; records = refl; component = refl; entries = refl }

pub hub_narrower : Narrower hub office
hub_narrower = record { atoms = lit≤ tt; component = lit≤ tt; entries = lit≤ tt }

-- A sheet and a sequence that pass the hub's 15 and 16 are answered alike in both, and so is every other refusal.
pub hub_same_answers : SameAnswers hub (Promised hub) (Promised office)
hub_same_answers = one_service hub office hub_format hub_narrower (Promised hub) (Promised office) (demand_1 hub) (demand_1 office)

-- And so are the places of bodies and their slices.
pub hub_same_bodies : SameBodies hub office
hub_same_bodies = same_bodies hub office hub_format hub_narrower

-- What C sees of hub and office is the same, but for 15 and 16.
pub seen_same_answers : SameAnswers hub (Seen hub) (Seen office)
seen_same_answers = one_service hub office hub_format hub_narrower (Seen hub) (Seen office) (seen_demand_1 hub) (seen_demand_1 office)

-- And so are the bodies that C is shown, with their places.
pub seen_same_shown : SameShown hub office
seen_same_shown = same_shown hub office hub_format hub_narrower
