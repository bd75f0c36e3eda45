use mathlib.Core.Path.{sym}
use Rattle.spec.specs.Map.Change.{decide_change}
use Rattle.map_shard.proofs.row_change.shrink_answer.Goals as goal

pub returns : goal.returns
unfolding decide_change
returns c = rw (sym c.is_primary-primary.ensures, sym c.has_synced-there.ensures) c.leave_answer.ensures
