-- What the changes of a held shard's header promise, whatever its key, its log and its vectors are then. Definitions only.
use Rattle.std.specs.Prelude.{ℕ, ◌≡◌, []}
use Rattle.spec.specs.Keys.{Key}
use Rattle.spec.specs.Log.{Log, Vectors}
use Rattle.spec.specs.Node.Shards.{with_replica, demoted}
use Rattle.spec.specs.Node.Shards as shards
use Rattle.spec.specs.declared.Metric.{Metric}
use Rattle.node_shard.specs.declared.Held.{Held}
use Rattle.node_shard.specs.View.{view_held}

-- node.rs, `or_insert_with`
pub record Begins (metric : Metric) (r : Held) : Type 0 where
  pub last : r.last ≡ 0
  pub same : (k : Key) → view_held k [] [] r ≡ shards.begun k metric

-- node.rs, on_new_epoch, where the epoch is taken: the log l and the vectors v are what the alignment left of l₀ and v₀
pub record Realigns (h : Held) (epoch kept : ℕ) (r : Held) : Type 0 where
  pub last : r.last ≡ kept
  pub same : (k : Key) (l₀ l : Log) (v₀ v : Vectors)
      → view_held k l v r
      ≡ demoted (with_replica (view_held k l₀ v₀ h) (record { epoch = epoch; metric = h.metric; log = l; vectors = v }))
