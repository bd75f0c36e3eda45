-- Paper 01: its numbers in one table. The limits, the numbers of rejections and refusals, and `shard_of` of a few ids. That every row
-- holds is computed in proofs/Cases/Numbers.antt. Definitions only.
use Rattle.std.specs.Prelude.{ℕ, ◌^◌, ◌-◌, List, [], ◌∷◌}
use Rattle.spec.specs.Keys.{Key}
use Rattle.spec.specs.Limits.{
  max_components,
  max_entries,
  min_floats,
  max_nodes,
  max_collections,
  max_shards,
  max_replicas,
  max_clients,
  max_name,
  max_address,
  max_lists,
  max_listed,
  max_held,
  max_workers,
  max_batch,
  max_time,
  max_refused,
  max_table,
  max_bench,
  max_u64,
}
use Rattle.spec.specs.Refusals.{
  Rejection,
  older,
  exists,
  zero_spec,
  placement_mismatch,
  not_alive,
  no_collection,
  known_incarnation,
  not_at_incarnation,
  no_shard,
  other_epoch,
  already_held,
  removes_primary,
  not_held,
  not_in_sync,
  shrinks_primary,
  already_in_sync,
  Refusal,
  unknown_shard,
  not_primary,
  no_lease,
  too_few_in_sync,
  undecodable,
  outside_domain,
  no_room,
  malformed,
  last_epoch,
  no_worker,
}

-- ---- limits

-- what the definitions name, and the paper's number
pub record Limit : Type 0 where
  pub named : ℕ
  pub number : ℕ

-- a row
infixl 70 ◌is◌
abbrev pub ◌is◌ : ℕ → ℕ → Limit
◌is◌ a b = record { named = a; number = b }

-- 'The shard map'
abbrev pub of_map : List Limit
of_map =
    max_nodes is 32
    ∷ max_collections is 16
    ∷ max_shards is 64
    ∷ max_replicas is 8
    ∷ max_clients is 64
    ∷ max_name is 32
    ∷ max_address is 64
    ∷ max_lists is 16
    ∷ max_listed is 8
    ∷ []

-- 'Nearest objects', 'The log', 'The node', 'Bytes on the wire'
abbrev pub of_others : List Limit
of_others =
    max_components is 32
    ∷ max_entries is 1024
    ∷ min_floats is 32768
    ∷ max_held is 8
    ∷ max_workers is 32
    ∷ max_batch is 256
    ∷ max_table is 1024
    ∷ max_bench is 1024
    ∷ max_time is (2 ^ 62)
    ∷ max_refused is (2 ^ 32 - 1)
    ∷ max_u64 is (2 ^ 64 - 1)
    ∷ []

-- ---- 'Who is turned down'

-- 1 to 16, in the paper's order; operands are of no matter
abbrev pub rejections : List Rejection
rejections =
    let k : Key = record { collection = []; shard = 0 } in
    older
    ∷ exists []
    ∷ zero_spec
    ∷ placement_mismatch
    ∷ not_alive 0
    ∷ no_collection []
    ∷ known_incarnation 0 0
    ∷ not_at_incarnation 0 0
    ∷ no_shard k
    ∷ other_epoch k 0 0
    ∷ already_held 0
    ∷ removes_primary
    ∷ not_held 0
    ∷ not_in_sync 0
    ∷ shrinks_primary
    ∷ already_in_sync 0
    ∷ []

-- their numbers
abbrev pub one_to_sixteen : List ℕ
one_to_sixteen = 1 ∷ 2 ∷ 3 ∷ 4 ∷ 5 ∷ 6 ∷ 7 ∷ 8 ∷ 9 ∷ 10 ∷ 11 ∷ 12 ∷ 13 ∷ 14 ∷ 15 ∷ 16 ∷ []

-- 17 to 26
abbrev pub refusals : List Refusal
refusals =
    unknown_shard
    ∷ not_primary 0
    ∷ no_lease
    ∷ too_few_in_sync
    ∷ undecodable
    ∷ outside_domain
    ∷ no_room
    ∷ malformed
    ∷ last_epoch
    ∷ no_worker
    ∷ []

-- their numbers
abbrev pub seventeen_on : List ℕ
seventeen_on = 17 ∷ 18 ∷ 19 ∷ 20 ∷ 21 ∷ 22 ∷ 23 ∷ 24 ∷ 25 ∷ 26 ∷ []

-- ---- shard_of

-- an id of a collection with so many shards, and the shard that holds it
pub record Spread : Type 0 where
  pub id : ℕ
  pub shards : ℕ
  pub shard : ℕ

-- a row
abbrev pub at : (id shards shard : ℕ) → Spread
at id shards shard = record { id = id; shards = shards; shard = shard }

-- the Rust's answers (oracle/stored/shardof): few shards and many, none, the ends of the ids
abbrev pub spread : List Spread
spread =
    at 0 2 1
    ∷ at 3 0 0
    ∷ at 5 64 26
    ∷ at 6 64 0
    ∷ at 16 64 7
    ∷ at 1 4294967295 437029550
    ∷ at 4611686018427387903 64 38
    ∷ at 4611686018427387905 4294967295 2128371966
    ∷ at 18446744073709551615 1184228614 239111538
    ∷ []
