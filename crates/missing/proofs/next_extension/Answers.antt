use Rattle.missing.proofs.Extending.{extension_some, extension_next}
use borrow.Author.Rules.{rules}
use Rattle.missing.proofs.next_extension.Goals as goal

pub lowest-place-requires : goal.lowest-place-requires
lowest-place-requires c = search (rules, extension_some)

pub returns : goal.returns
returns c =
    let pre = c.requires in
    extension_next _ _ _ pre.0.few _ _ pre.4 pre.5 _ c.from-x.ensures _ c.behind-from.ensures _ c.without-unused.ensures _ c.fill.ensures _ _ _
    c.followers-after.ensures c.lacking.ensures c.intersection.ensures pre.2 _ c.lowest-place.ensures
