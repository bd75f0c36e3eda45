-- What a shown map promises of one shard: the shard after and the workers to start are those of the definition, whatever the shard's key,
-- log and vectors are; `full` exactly where a 33rd worker would be needed. Definitions only.
use Rattle.std.specs.Prelude.{ℕ, Bool, false, not, eqb, leb}
use Rattle.std.proofs.Math.Option.{Option, none, some}
use Rattle.spec.specs.Lists.{◌and◌}
use Rattle.spec.specs.Keys.{Key}
use Rattle.spec.specs.Node.Shards.{leads_at}
use Rattle.spec.specs.Node.Shown.{Worker}
use Rattle.spec.specs.declared.Metric.{Metric}
use Rattle.spec.specs.declared.DataNodeId.{DataNodeId}
use Rattle.spec.specs.declared.Role.{Role}
use Rattle.spec.specs.declared.Role.TheVariants.{Backup, Primary}
use Rattle.std.specs.declared.option.Option as option
use Rattle.std.specs.Prelude.{None, Some}

abbrev pub leader_is : option.Option ℕ → ℕ → Bool
leader_is None me = false
leader_is (Some n) me = eqb n me

abbrev pub leader_of : option.Option ℕ → Option ℕ
leader_of None = none
leader_of (Some n) = some n

-- node.rs, on_map: promotion, or the first epoch of a new shard
abbrev pub rises : Role → (own epoch : ℕ) → Bool
rises r own epoch = not (leads_at r epoch) and leb own epoch

-- the epoch of the record: what a worker is started with
abbrev pub record_epoch : Role → ℕ
record_epoch Backup = 0
record_epoch (Primary e o) = e.0

abbrev pub worker_at : Key → ℕ → Metric → DataNodeId → Worker
worker_at k epoch metric n = record { key = k; peer = n; epoch = epoch; metric = metric }
