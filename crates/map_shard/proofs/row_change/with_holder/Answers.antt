use native.Mathlib.Omega.{arith}
use Rattle.spec.specs.Map.Change.{changed}
use Rattle.map_shard.proofs.row_change.with_holder.Goals as goal

pub returns : goal.returns
unfolding changed
returns c = (
  rw c.holder_added-grown.ensures.0,
  λ s. record { held = omega (arith, c.holder_added-grown.ensures.1); synced = s.synced },
)
