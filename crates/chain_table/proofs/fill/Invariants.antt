use lib.ListN.{length}
use Rattle.chain_table.proofs.Filling.{Reading}
use Rattle.chain_table.proofs.fill.Given as goal

abbrev pub invariant-loop-x : goal.invariant-loop-x
invariant-loop-x l =
    (goal.iterator-loop-x).can_next l.x-iterator × (goal.iterator-loop-x).is_finite l.x-iterator
    × Reading l.rows l.atoms (length l.atoms) l.q l.from l.x-iterator.iter.rest.now l.table
