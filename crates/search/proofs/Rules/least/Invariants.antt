-- `search::Rules::least` meets its contract, one law for each way through it.
use Prim.Native.Nat.{◌+◌, ◌-◌, ◌*◌, ◌^◌}
use Rattle.search.specs.inner.Masked.{masks}
use Rattle.search.specs.inner.Rules.{bound}
use Rattle.search.proofs.Passes.{Passing}
use Rattle.search.proofs.Rules.least.Given as goal

abbrev pub invariant-loop-j : goal.invariant-loop-j
invariant-loop-j l = Passing (masks l.self) (bound l.side l.d) l.start l.j l.x

abbrev pub decreases-loop-j : goal.decreases-loop-j
decreases-loop-j l = 129 * (2 ^ 64 - l.x) + (l.self.sizes.rules - l.j)
