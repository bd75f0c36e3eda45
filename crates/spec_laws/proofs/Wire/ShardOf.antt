-- rpc/lib.rs, shard_of: an id's shard is one of its collection's; without shards it is 0. Assumes nothing.
use Prim.Native.Nat.{ℕ, ◌<◌, max}
use native.Mathlib.Omega.{arith}
use native.Mathlib.Nat.{mod-lt}
use mathlib.Core.Path.{◌≡◌}
use Rattle.spec.specs.Layout.ShardOf.{mixed, shard_of}

pub shard-below : (id shards : ℕ) → 0 < shards → shard_of id shards < shards
unfolding shard_of
shard-below id shards h = omega (arith, mod-lt (mixed id) (positive shards))
  where
    positive : (n : ℕ) → 0 < max n 1
    positive n = omega arith

pub no_shards_lem : (id : ℕ) → shard_of id 0 ≡ 0
unfolding shard_of
no_shards_lem id = omega arith
