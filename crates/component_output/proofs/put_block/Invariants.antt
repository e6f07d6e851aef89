use Prim.Native.Nat.{◌-◌}
use Rattle.lists.specs.Lists.{times}
use Rattle.bits.specs.inner.Visited.{listed}
use Rattle.writer.proofs.Writing.{Left}
use Rattle.component_output.specs.inner.Names.{block_of}
use Rattle.component_output.proofs.put_block.Given as goal

abbrev pub invariant-loop : goal.invariant-loop
invariant-loop l = Left l.initial.out l.at (block_of l.x) l.out l.next (times (l.end - l.counter) (listed l.x))
