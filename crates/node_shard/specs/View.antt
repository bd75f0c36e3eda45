-- How a held shard is read: the replicas and rows in use, beside a key, a log and its vectors, which others hold. Definitions only.
use Rattle.std.specs.Prelude.{ℕ, Bool, false, not, List, ◌∷◌, ◌++◌, ltb, take, drop}
use Rattle.spec.specs.Keys.{Key}
use Rattle.spec.specs.Log.{Log, Vectors}
use Rattle.spec.specs.Node.Held as held
use Rattle.spec.specs.Node.Shards.{of_node}
use Rattle.spec.specs.declared.Peer.{Peer}
use Rattle.node_shard.specs.declared.Held.{Held}

-- the rows before that of a node
abbrev pub others : ℕ → Peer → Bool
others k p = not (of_node k p)

-- the rows below a node
abbrev pub below : ℕ → Peer → Bool
below k p = ltb p.node.0 k

-- an element put in at a place
abbrev pub insert_at {ℓ} : {A : Type ℓ} → List A → ℕ → A → List A
insert_at l i x = take i l ++ (x ∷ drop i l)

-- a row that no table has
abbrev pub no_peer : Peer
no_peer = record {
  node = record { 0 = 0 };
  acked = record { 0 = 0 };
  aligned = false;
  behind = false;
  since = 0;
  proposing = false;
  member = false;
}

-- the shard under the key k, whose log is l and whose vectors are v
abbrev pub view_held : Key → Log → Vectors → Held → held.Held
view_held k l v h = record {
  key = k;
  replica = record { epoch = h.epoch.0; metric = h.metric; log = l; vectors = v };
  holders = take h.holders h.replicas;
  role = h.role;
  own = h.own;
  peers = take h.count h.peers;
}

-- a shard with other rows, as many
abbrev pub with_rows : Held → List Peer → Held
with_rows h l = record {
  epoch = h.epoch;
  metric = h.metric;
  last = h.last;
  role = h.role;
  own = h.own;
  replicas = h.replicas;
  holders = h.holders;
  peers = l;
  count = h.count;
}
