use mathlib.Core.Path.{◌≡◌, ◌∙◌}
use Rattle.bits.specs.inner.Visited.{listed}
use Rattle.bits.proofs.Listing.{listed_low}
use Rattle.chains.proofs.Components.{places_roomy}
use Rattle.starts.proofs.Starts.{whole_row, component_none, component_some, place_index, places_some}
use borrow.Author.Rules.{rules}
use Rattle.starts.proofs.component_start.Goals as goal

pub fill-requires : goal.fill-requires
fill-requires c = search (rules, places_roomy, listed_low)

pub bounds-table-full : goal.bounds-table-full
bounds-table-full c = search (rules, whole_row)

pub returns-then-subset : goal.returns-then-subset
returns-then-subset c = search (rules, component_none)

pub shortest-found-requires : goal.shortest-found-requires
shortest-found-requires c = search (rules, whole_row)

pub lowest-requires : goal.lowest-requires
lowest-requires c =
    let S : c.as_slice-atoms.result.now ≡ listed c.args.x = c.as_slice-atoms.ensures.value ∙ c.list_set-list.ensures in
    places_some _ _ S _ _ _ c.fill.ensures _ c.power-full.ensures _ c.requires.0 _ _ c.shortest-found.ensures.shortest c.shortest-found.ensures.places _ c.subset.ensures c.if-subset.false

pub bounds-atoms-lowest : goal.bounds-atoms-lowest
bounds-atoms-lowest c =
    let S : c.as_slice-atoms.result.now ≡ listed c.args.x = c.as_slice-atoms.ensures.value ∙ c.list_set-list.ensures in
    place_index _ _ S _ _ _ c.fill.ensures _ c.power-full.ensures _ c.requires.0 _ _ c.shortest-found.ensures.shortest c.shortest-found.ensures.places _ c.lowest.ensures

pub returns : goal.returns
returns c =
    let S : c.as_slice-atoms.result.now ≡ listed c.args.x = c.as_slice-atoms.ensures.value ∙ c.list_set-list.ensures in
    component_some _ _ S _ _ _ c.fill.ensures _ c.power-full.ensures _ c.requires.0 _ _ c.shortest-found.ensures.shortest c.shortest-found.ensures.places _ c.lowest.ensures _ c.from-atom.ensures
