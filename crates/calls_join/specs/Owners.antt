-- The hits of one shard (29). Definitions only.
use Rattle.std.specs.Prelude.{ℕ, Bool, List, eqb}
use Rattle.spec.specs.Lists.{every}
use Rattle.spec.specs.Layout.ShardOf.{shard_of}
use Rattle.spec_join.specs.Join.{Hit}

abbrev pub own_hits : (shards shard : ℕ) → List Hit → Bool
own_hits shards shard l = every (λ (h : Hit). eqb (shard_of h.id shards) shard) l
