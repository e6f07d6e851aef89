-- `interface::store_count` meets its contract, one law for each way through it.
use borrow.Author.Rules.{rules}
use Rattle.interface.proofs.Storing.{stores_values, stores_refusal}
use Rattle.interface.proofs.store_count.Goals as goal

pub returns-in-Ok : goal.returns-in-Ok
returns-in-Ok c = stores_values _ _ _ c.in-Ok.counted _ c.in-Ok.is (search rules)

pub returns-in-Err : goal.returns-in-Err
returns-in-Err c = stores_refusal _ _ _ _ _ c.in-Err.is (search rules)
