-- `search::Rules::propagate` meets its contract, one law for each way through it.
use Prim.Native.Nat.{◌-◌}
use Rattle.search.specs.inner.Masked.{masks}
use Rattle.search.proofs.Propagating.{Propagating}
use Rattle.search.proofs.Rules.propagate.Given as goal

abbrev pub invariant-loop-p : goal.invariant-loop-p
invariant-loop-p l = Propagating (masks l.self) l.fn.d l.seen l.p

abbrev pub decreases-loop-p : goal.decreases-loop-p
decreases-loop-p l = 18446744073709551616 - l.seen
