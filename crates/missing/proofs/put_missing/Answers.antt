use mathlib.Core.Path.{◌≡◌, sym, ◌∙◌}
use lib.Dec.{eqb}
use Rattle.std.specs.Prelude.{Some, position}
use Rattle.bits.specs.inner.Visited.{listed}
use Rattle.bits.proofs.Listing.{listed_low, listed_rising}
use Rattle.chains.proofs.Components.{places_roomy}
use Rattle.missing.proofs.Written.{place_some, start_fits, some_lacks, chain_written}
use borrow.Author.Rules.{rules}
use Rattle.missing.proofs.put_missing.Goals as goal

pub unwrap-requires : goal.unwrap-requires
unwrap-requires c =
    let S : c.as_slice-atoms.result.now ≡ listed c.args.start.set = c.as_slice-atoms.ensures.value ∙ c.list_set-list.ensures in
    place_some _ _ _ _ S c.requires.4 _ c.place_of.ensures

pub put_chain-requires : goal.put_chain-requires
put_chain-requires c =
    let S : c.as_slice-atoms.result.now ≡ listed c.args.start.set = c.as_slice-atoms.ensures.value ∙ c.list_set-list.ensures in
    let A : position (λ b. eqb b c.args.start.atom) c.as_slice-atoms.result.now ≡ Some c.unwrap.result = sym c.place_of.ensures ∙ c.unwrap.ensures in
    let X = c.requires.4 in
    (search rules, places_roomy _ _ S _ c.requires.1, listed_low _ _ S, listed_rising _ _ S, search rules, start_fits _ _ _ _ S _ _ A c.power.ensures X c.requires.2, some_lacks _ _ _ _ S _ _ A c.power.ensures X)

pub returns : goal.returns
returns c =
    let S : c.as_slice-atoms.result.now ≡ listed c.args.start.set = c.as_slice-atoms.ensures.value ∙ c.list_set-list.ensures in
    let A : position (λ b. eqb b c.args.start.atom) c.as_slice-atoms.result.now ≡ Some c.unwrap.result = sym c.place_of.ensures ∙ c.unwrap.ensures in
    chain_written _ _ _ _ S _ _ A c.power.ensures _ _ _ c.put_chain.ensures
