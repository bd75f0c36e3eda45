-- A small dome to run: nodes 1 and 2 hold one shard of a collection, created by the calls themselves. Assumes nothing.
use Prim.Native.Nat.{ℕ}
use mathlib.Core.Bool.{Bool, true, false}
use mathlib.Core.List.{List, [], ◌∷◌}
use mathlib.Core.Option.{some}
use Rattle.spec.specs.Keys.{Key}
use Rattle.spec.specs.Log.{Entry, delete}
use Rattle.spec.specs.Map.Tables.{Map, Spec, ShardInfo, empty_map}
use Rattle.spec.specs.Map.Calls.{apply_bytes}
use Rattle.spec.specs.Layout.Parts.{wire_delete}
use Rattle.spec.specs.Layout.Request.{Command, create, register, promote_primary, encode_request}
use Rattle.spec.specs.Layout.Message.{encode_write}
use Rattle.spec.specs.declared.Metric.TheVariants.{Euclidean}
use Rattle.spec_run.specs.State.{State, Write}
use Rattle.spec_run.proofs.Created.{started}
use Rattle.spec_run.specs.Event.{Event, command, client_writes, worker_steps}

-- the shard 0 of the collection "s"
abbrev pub key : Key
key = record { collection = 0x73 ∷ []; shard = 0 }

-- a request of a client that is no node's
abbrev pub asks : (seq : ℕ) → Command → List ℕ
asks seq c = encode_request (record { index = seq; client = 9; seq = seq; command = c })

-- both nodes registered at incarnation 4, and the collection created on them
unfoldable pub created : Map
created =
    let one = (apply_bytes empty_map (asks 1 (register 1 [] 4))).map in
    let two = (apply_bytes one (asks 2 (register 2 [] 4))).map in
    let spec : Spec = record { dimension = 1; metric = Euclidean; shards = 1; replication = 2 } in
    (apply_bytes two (asks 3 (create (0x73 ∷ []) spec ((1 ∷ 2 ∷ []) ∷ [])))).map

-- its one shard
abbrev pub info : ShardInfo
info = record {
  key = key;
  replicas =
      record { node = record { 0 = 1 }; incarnation = 4 } ∷ record { node = record { 0 = 2 }; incarnation = 4 } ∷ [];
  primary = some 1;
  insync = record { 0 = 1 } ∷ record { 0 = 2 } ∷ [];
  epoch = 1;
}

-- the two nodes have been shown that map; every other has been made with id 0, as a machine's zeroed memory is read
unfoldable pub start : State
start = started created info 0 (λ n. 4) (λ n. 0) (λ n. 100)

-- a Write that deletes an id
abbrev pub deletes : (node epoch id : ℕ) → Event
deletes n epoch id = client_writes n 5 1 (encode_write (record { key = key; epoch = epoch; op = wire_delete id }))

-- a worker's step with room enough
abbrev pub works : (node epoch peer : ℕ) → Event
works n epoch peer = worker_steps n key epoch peer Euclidean 1000

abbrev pub promotes : (seq node epoch : ℕ) → Event
promotes seq n epoch = command (asks seq (promote_primary key n epoch))

-- what a run acknowledges, and what a log holds, of such a Write
abbrev pub wrote : (node epoch offset id : ℕ) → Write
wrote n epoch o id = record { node = n; key = key; epoch = epoch; offset = o; op = delete id }

abbrev pub entry : (epoch offset id : ℕ) → Entry
entry epoch o id = record { epoch = epoch; offset = o; op = delete id }
