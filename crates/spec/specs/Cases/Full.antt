-- Paper 01, 'Who is turned down', 23: each limit of the map and of the log met exactly, and passed by one. That every row holds is
-- computed in proofs/Cases/Full.antt. Definitions only.
use Rattle.std.specs.Prelude.{ℕ, zero, suc, true, List, [], ◌∷◌, replicate}
use Rattle.std.proofs.Math.Option.{none}
use Rattle.spec.specs.Keys.{Key}
use Rattle.spec.specs.Refusals.{exists, zero_spec, placement_mismatch, not_alive, known_incarnation, already_held, older, no_room}
use Rattle.spec.specs.Log.{Entry, delete}
use Rattle.spec.specs.Map.Tables.{Collection, ShardInfo, applied, rejected, Session, Map, Answer, outcome, refused}
use Rattle.spec.specs.Layout.Request.{Command, create, register, add_replica, bench, Request}
use Rattle.spec.specs.Node.Held.{Held, Node}
use Rattle.spec.specs.Node.Shards.{begun}
use Rattle.spec.specs.Starred.{backup_at}
use Rattle.spec.specs.declared.Metric.TheVariants.{Euclidean}
use Rattle.spec.specs.declared.Replica.{Replica}
use Rattle.spec.specs.declared.Role.TheVariants.{Primary}
use Rattle.spec.specs.Cases.Commands.{from, on, id, shard, session, sized}
use Rattle.spec.specs.Cases.Placing.{live_to}

-- ---- tables of a given size

-- the name of one byte, from 21 hexadecimal on
abbrev pub named : ℕ → List ℕ
named n = n ∷ []

-- so many collections without shards, the first named by that byte
abbrev pub collections_from : (byte count : ℕ) → List Collection
collections_from b zero = []
collections_from b (suc n) = record { name = named b; spec = sized 1 1 1 } ∷ collections_from (suc b) n

-- so many shards of one collection, each on node 1
abbrev pub shards_from : (byte number count : ℕ) → List ShardInfo
shards_from b k zero = []
shards_from b k (suc n) =
    shard (record { collection = named b; shard = k }) (on 1 1 ∷ []) 1 (id 1 ∷ []) ∷ shards_from b (suc k) n

-- so many clients, of which the first has that number; each has been answered its request 5
abbrev pub clients_from : (client count : ℕ) → List Session
clients_from c zero = []
clients_from c (suc n) = session c 5 applied ∷ clients_from (suc c) n

-- so many replicas, on the nodes from a number on
abbrev pub replicas_from : (node count : ℕ) → List Replica
replicas_from k zero = []
replicas_from k (suc n) = on k 1 ∷ replicas_from (suc k) n

-- a map of such tables
abbrev pub sizes : (nodes : ℕ) → List Collection → List ShardInfo → (clients : ℕ) → Map
sizes n cs ss clients = record { version = 9; nodes = live_to 1 n; collections = cs; shards = ss; sessions = clients_from 1 clients }

-- ---- what such a map answers

-- a map, a request, and the answer
pub record Row : Type 0 where
  pub given : Map
  pub asked : Request
  pub answer : Answer

-- client 1's next command
abbrev pub row : Map → Command → Answer → Row
row m command a = record { given = m; asked = from 1 50 6 command; answer = a }

-- 64 clients: a 65th is refused whatever it asks, the others are answered
abbrev pub clients : List Row
clients =
    record { given = sizes 1 [] [] 63; asked = from 64 50 1 (bench []); answer = outcome applied }
    ∷ record { given = sizes 1 [] [] 64; asked = from 65 50 1 (bench []); answer = refused no_room }
    ∷ record { given = sizes 1 [] [] 64; asked = from 0 50 1 (register 1 [] 0); answer = refused no_room }
    ∷ record { given = sizes 1 [] [] 64; asked = from 64 50 6 (bench []); answer = outcome applied }
    ∷ record { given = sizes 1 [] [] 64; asked = from 64 50 4 (bench []); answer = outcome (rejected older) }
    ∷ []

-- 32 nodes: a 33rd is refused, a known one may come back
abbrev pub nodes : List Row
nodes =
    row (sizes 31 [] [] 1) (register 32 [] 1) (outcome applied)
    ∷ row (sizes 32 [] [] 1) (register 33 [] 1) (refused no_room)
    ∷ row (sizes 32 [] [] 1) (register 0 [] 1) (refused no_room)
    ∷ row (sizes 32 [] [] 1) (register 32 [] 2) (outcome applied)
    ∷ row (sizes 32 [] [] 1) (register 32 [] 1) (outcome (rejected (known_incarnation 32 1)))
    ∷ []

-- one list with node 1, and so many such lists
abbrev pub on_one : (shards : ℕ) → List (List ℕ)
on_one n = replicate n (1 ∷ [])

-- 16 collections: a 17th is refused, after 2, 3, 4 and 5
abbrev pub collections : List Row
collections =
    row (sizes 1 (collections_from 0x21 15) [] 1) (create (named 0x41) (sized 1 1 1) (on_one 1)) (outcome applied)
    ∷ row (sizes 1 (collections_from 0x21 16) [] 1) (create (named 0x41) (sized 1 1 1) (on_one 1)) (refused no_room)
    ∷ row (sizes 1 (collections_from 0x21 16) [] 1) (create (named 0x22) (sized 1 1 1) (on_one 1)) (outcome (rejected (exists (named 0x22))))
    ∷ row (sizes 1 (collections_from 0x21 16) [] 1) (create (named 0x41) (sized 0 1 1) (on_one 1)) (outcome (rejected zero_spec))
    ∷ row (sizes 1 (collections_from 0x21 16) [] 1) (create (named 0x41) (sized 1 2 1) (on_one 1)) (outcome (rejected placement_mismatch))
    ∷ row (sizes 1 (collections_from 0x21 16) [] 1) (create (named 0x41) (sized 1 1 1) ((2 ∷ []) ∷ [])) (outcome (rejected (not_alive 2)))
    ∷ []

-- 64 shards: a 65th is refused
abbrev pub shards : List Row
shards =
    row (sizes 1 (collections_from 0x21 1) (shards_from 0x21 0 62) 1) (create (named 0x41) (sized 1 2 1) (on_one 2)) (outcome applied)
    ∷ row (sizes 1 (collections_from 0x21 1) (shards_from 0x21 0 63) 1) (create (named 0x41) (sized 1 2 1) (on_one 2)) (refused no_room)
    ∷ row (sizes 1 (collections_from 0x21 1) (shards_from 0x21 0 64) 1) (create (named 0x41) (sized 1 1 1) (on_one 1)) (refused no_room)
    ∷ []

-- the key of a map's only shard
abbrev pub only : Key
only = record { collection = named 0x21; shard = 0 }

-- a map with one shard of so many replicas
abbrev pub holding : (replicas : ℕ) → Map
holding n = sizes 32 (collections_from 0x21 1) (shard only (replicas_from 1 n) 1 (id 1 ∷ []) ∷ []) 1

-- 8 replicas: a ninth is refused, after 11
abbrev pub replicas : List Row
replicas =
    row (holding 7) (add_replica only 9 1 1) (outcome applied)
    ∷ row (holding 8) (add_replica only 9 1 1) (refused no_room)
    ∷ row (holding 8) (add_replica only 8 1 1) (outcome (rejected (already_held 8)))
    ∷ []

-- ---- the log: 1,024 entries

-- a backup at epoch 1 with so many entries
abbrev pub logged : ℕ → Held
logged n = backup_at 1 (replicate n 1)

-- the same as a primary that is alone
abbrev pub leading : ℕ → Held
leading n = record {
  key = (logged n).key;
  replica = (logged n).replica;
  holders = [];
  role = Primary (record { 0 = 1 }) (record { 0 = 0 });
  own = true;
  peers = [];
}

-- an entry at an offset
abbrev pub delete_at : ℕ → Entry
delete_at o = record { epoch = 1; offset = o; op = delete 0 }

-- ---- the node: 8 shards

-- so many empty shards of the collection without a name
abbrev pub held_from : (number count : ℕ) → List Held
held_from k zero = []
held_from k (suc n) = begun (record { collection = []; shard = k }) Euclidean ∷ held_from (suc k) n

-- a node that holds so many
abbrev pub keeper : (shards : ℕ) → Node
keeper n = record { id = 1; incarnation = 1; expiry = none; version = 0; held = held_from 0 n }
