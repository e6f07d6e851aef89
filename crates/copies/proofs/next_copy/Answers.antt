-- `copies::next_copy` meets its contract, one law for each way through it.
use mathlib.Core.Path.{refl}
use Rattle.copies.proofs.next_copy.Goals as goal

pub returns : goal.returns
returns c =
    record { selected = c.copy_step-step.ensures; overlaid = c.overlay.ensures; is_latest = refl }
