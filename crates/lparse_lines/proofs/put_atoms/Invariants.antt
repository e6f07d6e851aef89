-- `lparse_lines::put_atoms` meets its contract, one law for each way through it.
use Rattle.lparse_lines.proofs.Lines.{AtomsLeft}
use Rattle.lparse_lines.proofs.put_atoms.Given as goal

abbrev pub invariant-loop-left : goal.invariant-loop-left
invariant-loop-left l = AtomsLeft l.initial.out l.at l.x l.out l.next l.left

abbrev pub decreases-loop-left : goal.decreases-loop-left
decreases-loop-left l = l.left
