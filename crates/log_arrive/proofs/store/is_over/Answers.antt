use Rattle.log_arrive.proofs.Stores.{over_and, over_not}
use Rattle.log_arrive.proofs.store.is_over.Goals as goal

pub returns-then-count-eq1024 : goal.returns-then-count-eq1024
returns-then-count-eq1024 c = over_and _ _ c.if-count-eq1024.true

pub returns-else-count-eq1024 : goal.returns-else-count-eq1024
returns-else-count-eq1024 c = over_not _ _ c.if-count-eq1024.false
