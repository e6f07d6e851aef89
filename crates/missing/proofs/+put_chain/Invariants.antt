-- The atoms that are unused fall at each call.
use Rattle.std.proofs.Common.{length}
use Rattle.bits.specs.inner.Visited.{listed}
use Rattle.missing.proofs.+put_chain.Given as goal

abbrev pub decreases-put_chain : goal.decreases-put_chain
decreases-put_chain l = length (listed l.extension.unused)
