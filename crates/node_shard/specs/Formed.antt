-- Paper 01, 'Who is turned down', 24: what is malformed of one held shard as it is lent. Its key's name, which others hold, apart.
-- Definitions only.
use Rattle.std.specs.Prelude.{Bool, leb, take}
use Rattle.spec.specs.Lists.{◌and◌, every, rising}
use Rattle.spec.specs.Limits.{max_replicas, max_entries, max_workers}
use Rattle.spec.specs.Node.Shards.{row_below}
use Rattle.spec.specs.Node.WellFormed.{ack_fits}
use Rattle.node_shard.specs.declared.Held.{Held}

-- 'a count over its limit, sorted keys that do not rise, an acked offset above 2^62'
unfoldable pub formed_held : Held → Bool
formed_held h =
    leb h.holders max_replicas
    and leb h.last max_entries
    and leb h.count max_workers
    and rising row_below (take h.count h.peers)
    and every ack_fits (take h.count h.peers)
