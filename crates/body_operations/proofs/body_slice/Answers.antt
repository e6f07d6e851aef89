-- `body_operations::body_slice` meets its contract, one law for each way through it.
use Rattle.operations.proofs.Bodies.{slice_shown, slice_empty}
use Rattle.body_operations.proofs.body_slice.Goals as goal

pub returns-in_default : goal.returns-in_default
returns-in_default c = slice_empty _ _ _ _ c.in_default.ensures _

pub returns : goal.returns
returns c = slice_shown _ _ _ _ c.in-Ok.ensures _
