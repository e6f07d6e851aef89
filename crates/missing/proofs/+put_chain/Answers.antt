-- `missing::put_chain`, which calls itself, meets its contract: the atoms that are unused fall at each call.
use Rattle.std.proofs.Common.{rules, arith}
use Rattle.missing.proofs.Extending.{put_last, put_more, put_room, next_some}
use Rattle.missing.proofs.+put_chain.Goals as goal

pub returns-then-extension-le1 : goal.returns-then-extension-le1
returns-then-extension-le1 t c = put_last _ _ _ _ _ c.requires.5 _ _ _ _ c.if-extension-le1.true c.put-at.ensures

pub put_chain-requires : goal.put_chain-requires
put_chain-requires t c =
    let pre = c.requires in
    let N = c.next_extension-extension.ensures in (
      omega (arith, N.fewer, c.decreases),
      (put_room _ _ _ _ _ _ _ _ _ _ _ N pre.0 c.put-at.ensures, search rules, pre.2, pre.3, pre.4, N.fits, next_some _ _ _ _ _ _ N pre.6),
    )

pub returns : goal.returns
returns t c =
    put_more _ _ _ _ _ c.requires.5 _ _ _ _ _ _ _ c.put-at.ensures c.next_extension-extension.ensures c.put_chain.ensures
