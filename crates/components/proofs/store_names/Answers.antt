use native.Mathlib.Omega.{arith}
use Rattle.components.proofs.Naming.{naming_turn}
use Rattle.components.proofs.store_names.Goals as goal

pub loop-a-preserved : goal.loop-a-preserved
loop-a-preserved c = let k = c.loop-a in naming_turn _ _ k.a c.name_of.result k.names k.invariant (omega arith) c.name_of.ensures
