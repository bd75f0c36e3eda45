-- Paper 01, 'The shard map' and 'Who is turned down', Apply: one small map, and for each command what it answers there, with the
-- operands of the Rust's words (state.rs), and the whole map afterwards. That every row holds is computed in
-- proofs/Cases/Commands.antt. Definitions only.
use Rattle.std.specs.Prelude.{ℕ, Bool, true, false, List, [], ◌∷◌}
use Rattle.std.proofs.Math.Option.{some}
use Rattle.spec.specs.Keys.{Name, Key}
use Rattle.spec.specs.Refusals.{Rejection, older, exists, zero_spec, placement_mismatch, not_alive, no_collection, known_incarnation, not_at_incarnation, no_shard, other_epoch, already_held, removes_primary, not_held, not_in_sync, shrinks_primary, already_in_sync}
use Rattle.spec.specs.Map.Tables.{NodeInfo, Spec, Collection, ShardInfo, Outcome, applied, rejected, Session, Map, Answer, outcome}
use Rattle.spec.specs.Map.Apply.{Applied}
use Rattle.spec.specs.Layout.Request.{Command, create, drop_collection, register, mark_dead, add_replica, remove_replica, promote_primary, shrink_in_sync, expand_in_sync, bench, Request}
use Rattle.spec.specs.declared.DataNodeId.{DataNodeId}
use Rattle.spec.specs.declared.Metric.TheVariants.{Angular}
use Rattle.spec.specs.declared.Replica.{Replica}

-- ---- words for rows

-- a request of a client
abbrev pub from : (client index seq : ℕ) → Command → Request
from client index seq c = record { index = index; client = client; seq = seq; command = c }

-- a node's row
abbrev pub node : (id : ℕ) → (address : Name) → (incarnation : ℕ) → (alive : Bool) → NodeInfo
node id address i alive = record { node = id; address = address; incarnation = i; alive = alive }

-- a replica, and a node in sync
abbrev pub on : (node incarnation : ℕ) → Replica
on n i = record { node = record { 0 = n }; incarnation = i }

-- a node in sync
abbrev pub id : ℕ → DataNodeId
id n = record { 0 = n }

-- a shard at epoch 1 whose primary is that node
abbrev pub shard : Key → List Replica → (primary : ℕ) → List DataNodeId → ShardInfo
shard k rs p ds = record { key = k; replicas = rs; primary = some p; insync = ds; epoch = 1 }

-- what is remembered of a client
abbrev pub session : (client seq : ℕ) → Outcome → Session
session c s o = record { client = c; seq = s; outcome = o }

-- a spec by Angular
abbrev pub sized : (dimension shards replication : ℕ) → Spec
sized d s r = record { dimension = d; metric = Angular; shards = s; replication = r }

-- ---- the map

-- the names 'c' and 'd'
abbrev pub c : Name
c = 0x63 ∷ []

-- the name 'd'
abbrev pub d : Name
d = 0x64 ∷ []

-- the shards of 'c': 0 and 1; there is no 2
abbrev pub part : ℕ → Key
part n = record { collection = c; shard = n }

-- four nodes, of which 3 is dead; 'c' with a shard on 2 and 1, of which only 2 is in sync, and one that lists node 4 twice
abbrev pub built : List Request
built =
    from 9 11 1 (register 4 [] 7)
    ∷ from 9 12 2 (register 1 (0x61 ∷ []) 4)
    ∷ from 9 13 3 (register 3 [] 6)
    ∷ from 9 14 4 (register 2 [] 5)
    ∷ from 9 15 5 (mark_dead 3 6)
    ∷ from 9 16 6 (create c (sized 2 2 3) ((2 ∷ 1 ∷ []) ∷ (4 ∷ 2 ∷ 4 ∷ []) ∷ []))
    ∷ from 9 17 7 (shrink_in_sync (part 0) 1 1)
    ∷ from 9 18 8 (bench (1 ∷ []))
    ∷ []

-- its nodes, by id
abbrev pub nodes : List NodeInfo
nodes = node 1 (0x61 ∷ []) 4 true ∷ node 2 [] 5 true ∷ node 3 [] 6 false ∷ node 4 [] 7 true ∷ []

-- its collection
abbrev pub collections : List Collection
collections = record { name = c; spec = sized 2 2 3 } ∷ []

-- its first shard: replicas under the incarnations that the map knows
abbrev pub first : ShardInfo
first = shard (part 0) (on 2 5 ∷ on 1 4 ∷ []) 2 (id 2 ∷ [])

-- its second shard: a repeated node is one more replica, and once in sync
abbrev pub second : ShardInfo
second = shard (part 1) (on 4 7 ∷ on 2 5 ∷ on 4 7 ∷ []) 4 (id 2 ∷ id 4 ∷ [])

-- the map that those requests make: Shrink was the last to set the version, not Bench
abbrev pub base : Map
base = record {
  version = 17;
  nodes = nodes;
  collections = collections;
  shards = first ∷ second ∷ [];
  sessions = session 9 8 applied ∷ [];
}

-- ---- what a request came to

-- applied: the tables afterwards, with the version, and remembered
abbrev pub takes : (version : ℕ) → List NodeInfo → List Collection → List ShardInfo → Applied
takes v ns cs ss = record {
  answer = outcome applied;
  map = record { version = v; nodes = ns; collections = cs; shards = ss; sessions = session 9 9 applied ∷ [] };
}

-- rejected: remembered, and nothing else
abbrev pub turns_down : Rejection → Applied
turns_down why = record {
  answer = outcome (rejected why);
  map = record {
    version = 17;
    nodes = nodes;
    collections = collections;
    shards = first ∷ second ∷ [];
    sessions = session 9 9 (rejected why) ∷ [];
  };
}

-- answered with nothing remembered
abbrev pub keeps : Answer → Applied
keeps a = record { answer = a; map = base }

-- a row: a request to that map, and what it comes to
pub record Row : Type 0 where
  pub asked : Request
  pub expected : Applied

-- the next command of client 9, at index 50
infixl 70 ◌gives◌
abbrev pub ◌gives◌ : Command → Applied → Row
◌gives◌ command a = record { asked = from 9 50 9 command; expected = a }

-- ---- Create: 2, 3, 4, 5 in that order, and what it makes

-- 'a' stands before 'c'; node 4 has incarnation 7
abbrev pub creating : List Row
creating =
    create c (sized 0 2 3) [] gives turns_down (exists c)
    ∷ create d (sized 0 1 1) [] gives turns_down zero_spec
    ∷ create d (sized 1 0 1) [] gives turns_down zero_spec
    ∷ create d (sized 1 1 0) [] gives turns_down zero_spec
    ∷ create d (sized 1 2 2) ((3 ∷ []) ∷ []) gives turns_down placement_mismatch
    ∷ create d (sized 1 1 2) ((1 ∷ []) ∷ (1 ∷ []) ∷ []) gives turns_down placement_mismatch
    ∷ create d (sized 1 2 2) ((1 ∷ []) ∷ [] ∷ []) gives turns_down placement_mismatch
    ∷ create d (sized 1 1 2) ((1 ∷ 2 ∷ 4 ∷ []) ∷ []) gives turns_down placement_mismatch
    ∷ create d (sized 1 2 2) ((1 ∷ 3 ∷ []) ∷ (8 ∷ []) ∷ []) gives turns_down (not_alive 3)
    ∷ create d (sized 1 2 2) ((1 ∷ 8 ∷ []) ∷ (3 ∷ []) ∷ []) gives turns_down (not_alive 8)
    ∷ create (0x61 ∷ []) (sized 3 1 2) ((4 ∷ []) ∷ []) gives
    takes 50 nodes (record { name = 0x61 ∷ []; spec = sized 3 1 2 } ∷ collections)
    (shard (record { collection = 0x61 ∷ []; shard = 0 }) (on 4 7 ∷ []) 4 (id 4 ∷ []) ∷ first ∷ second ∷ [])
    ∷ []

-- ---- Drop 6, Register 7, MarkNodeDead 8, Bench

-- 7 names what the map knows, 8 what was asked. A dead node at its own incarnation may be marked again
abbrev pub of_nodes : List Row
of_nodes =
    drop_collection d gives turns_down (no_collection d)
    ∷ drop_collection c gives takes 50 nodes [] []
    ∷ register 2 [] 5 gives turns_down (known_incarnation 2 5)
    ∷ register 2 [] 3 gives turns_down (known_incarnation 2 5)
    ∷ register 3 [] 6 gives turns_down (known_incarnation 3 6)
    ∷ register 3 d 8 gives
    takes 50 (node 1 (0x61 ∷ []) 4 true ∷ node 2 [] 5 true ∷ node 3 d 8 true ∷ node 4 [] 7 true ∷ []) collections (first ∷ second ∷ [])
    ∷ register 0 [] 0 gives takes 50 (node 0 [] 0 true ∷ nodes) collections (first ∷ second ∷ [])
    ∷ mark_dead 1 5 gives turns_down (not_at_incarnation 1 5)
    ∷ mark_dead 8 1 gives turns_down (not_at_incarnation 8 1)
    ∷ mark_dead 3 6 gives takes 50 nodes collections (first ∷ second ∷ [])
    ∷ mark_dead 2 5 gives
    takes 50 (node 1 (0x61 ∷ []) 4 true ∷ node 2 [] 5 false ∷ node 3 [] 6 false ∷ node 4 [] 7 true ∷ []) collections (first ∷ second ∷ [])
    ∷ bench [] gives takes 17 nodes collections (first ∷ second ∷ [])
    ∷ []

-- ---- those with a shard: 9, then 10 with the shard's epoch and then the given one

-- no such shard, whatever else is wrong
abbrev pub lacking : List Row
lacking =
    add_replica (part 2) 1 4 7 gives turns_down (no_shard (part 2))
    ∷ remove_replica (part 2) 1 7 gives turns_down (no_shard (part 2))
    ∷ promote_primary (part 2) 1 7 gives turns_down (no_shard (part 2))
    ∷ shrink_in_sync (part 2) 1 7 gives turns_down (no_shard (part 2))
    ∷ expand_in_sync (record { collection = d; shard = 0 }) 1 7 gives turns_down (no_shard (record { collection = d; shard = 0 }))
    ∷ add_replica (part 0) 2 5 7 gives turns_down (other_epoch (part 0) 1 7)
    ∷ remove_replica (part 0) 2 0 gives turns_down (other_epoch (part 0) 1 0)
    ∷ promote_primary (part 0) 1 7 gives turns_down (other_epoch (part 0) 1 7)
    ∷ shrink_in_sync (part 1) 4 2 gives turns_down (other_epoch (part 1) 1 2)
    ∷ expand_in_sync (part 0) 2 7 gives turns_down (other_epoch (part 0) 1 7)
    ∷ []

-- a change of the second shard that is taken
abbrev pub second_is : List Replica → (primary : ℕ) → List DataNodeId → (epoch : ℕ) → Applied
second_is rs p ds e =
    takes 50 nodes collections (first ∷ record { key = part 1; replicas = rs; primary = some p; insync = ds; epoch = e } ∷ [])

-- Add 11; Remove 12, 13; Promote 14; Shrink 15, 14; Expand 13, 16; each with its node, and what the change makes
abbrev pub changing : List Row
changing =
    add_replica (part 0) 1 9 1 gives turns_down (already_held 1)
    ∷ add_replica (part 1) 1 9 1 gives second_is (on 4 7 ∷ on 2 5 ∷ on 4 7 ∷ on 1 9 ∷ []) 4 (id 2 ∷ id 4 ∷ []) 1
    ∷ remove_replica (part 0) 2 1 gives turns_down removes_primary
    ∷ remove_replica (part 0) 4 1 gives turns_down (not_held 4)
    ∷ remove_replica (part 1) 2 1 gives second_is (on 4 7 ∷ on 4 7 ∷ []) 4 (id 4 ∷ []) 1
    ∷ promote_primary (part 0) 1 1 gives turns_down (not_in_sync 1)
    ∷ promote_primary (part 1) 2 1 gives second_is (on 4 7 ∷ on 2 5 ∷ on 4 7 ∷ []) 2 (id 2 ∷ []) 2
    ∷ promote_primary (part 1) 4 1 gives second_is (on 4 7 ∷ on 2 5 ∷ on 4 7 ∷ []) 4 (id 2 ∷ id 4 ∷ []) 2
    ∷ shrink_in_sync (part 0) 2 1 gives turns_down shrinks_primary
    ∷ shrink_in_sync (part 0) 1 1 gives turns_down (not_in_sync 1)
    ∷ shrink_in_sync (part 1) 2 1 gives second_is (on 4 7 ∷ on 2 5 ∷ on 4 7 ∷ []) 4 (id 4 ∷ []) 1
    ∷ expand_in_sync (part 0) 4 1 gives turns_down (not_held 4)
    ∷ expand_in_sync (part 1) 2 1 gives turns_down (already_in_sync 2)
    ∷ expand_in_sync (part 0) 1 1 gives
    takes 50 nodes collections (shard (part 0) (on 2 5 ∷ on 1 4 ∷ []) 2 (id 1 ∷ id 2 ∷ []) ∷ second ∷ [])
    ∷ []

-- ---- the sessions: 1, and an equal seq

-- an older command is rejected and not remembered; an equal seq has the old outcome, whatever it asks; another client has its own
abbrev pub again : List Row
again =
    record { asked = from 9 50 7 (drop_collection d); expected = keeps (outcome (rejected older)) }
    ∷ record { asked = from 9 50 8 (drop_collection d); expected = keeps (outcome applied) }
    ∷ record {
      asked = from 3 50 1 (drop_collection d);
      expected = record {
        answer = outcome (rejected (no_collection d));
        map = record {
          version = 17;
          nodes = nodes;
          collections = collections;
          shards = first ∷ second ∷ [];
          sessions = session 3 1 (rejected (no_collection d)) ∷ session 9 8 applied ∷ [];
        };
      };
    }
    ∷ []

-- ---- 25: Promote where the epoch is 2^64 − 1, after 14

-- a shard at an epoch, of nodes 1 and 2, with 1 in sync
abbrev pub at_epoch : ℕ → ShardInfo
at_epoch e = record { key = part 0; replicas = on 1 4 ∷ on 2 5 ∷ []; primary = some 1; insync = id 1 ∷ []; epoch = e }
