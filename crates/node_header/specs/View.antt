-- How a header is read as `spec`'s node, beside the eight stores, which hold the logs and the vectors of its shards. Definitions only.
use Rattle.std.specs.Prelude.{ℕ, Bool, false, not, ◌≡◌, List, [], map, length, take, get_or, set}
use Rattle.spec.specs.Keys.{Key, same_key}
use Rattle.spec.specs.Log.{Log, Vectors}
use Rattle.spec.specs.Node.Held as held
use Rattle.spec.specs.declared.Metric.TheVariants.{Euclidean}
use Rattle.spec.specs.declared.Role.TheVariants.{Backup}
use Rattle.node_shard.specs.declared.Held.{Held}
use Rattle.node_shard.specs.View.{view_held}
use Rattle.node_admit.specs.View.{view_expiry}
use Rattle.map_tables.specs.Names.{view_key}
use Rattle.node_header.specs.declared.HeldRow.{HeldRow}
use Rattle.node_header.specs.declared.Node.{Node}

-- what the stores hold, by slot: the log of so many entries, and the vectors of a table of so many rows for such a log. A log read at
-- its length is as long, and an empty one has no vectors, whatever the store holds
pub record Stores : Type 0 where
  pub log : (slot last : ℕ) → Log
  pub vectors : (slot last stored : ℕ) → Vectors
  pub long : (slot last : ℕ) → length (log slot last) ≡ last
  pub bare : (slot : ℕ) → vectors slot 0 0 ≡ []

-- one held shard under its key, with its own store's log and vectors
abbrev pub view_held_row : Stores → HeldRow → held.Held
view_held_row s x = view_held (view_key x.key) (s.log x.slot x.held.last) (s.vectors x.slot x.held.last x.stored) x.held

-- the shards in use
abbrev pub used : Node → List HeldRow
used n = take n.count n.held

abbrev pub view_node : Stores → Node → held.Node
view_node s n = record {
  id = n.id.0;
  incarnation = n.incarnation;
  expiry = view_expiry n.expiry;
  version = n.version;
  held = map (view_held_row s) (used n);
}

-- the shards before that of a key
abbrev pub other_key : Key → HeldRow → Bool
other_key k x = not (same_key (view_key x.key) k)

-- a held shard as a call left it, the length of its log apart
abbrev pub relogged : Held → ℕ → Held
relogged h last = record {
  epoch = h.epoch;
  metric = h.metric;
  last = last;
  role = h.role;
  own = h.own;
  replicas = h.replicas;
  holders = h.holders;
  peers = h.peers;
  count = h.count;
}

abbrev pub kept_as : HeldRow → Held → HeldRow
kept_as x h = record { key = x.key; slot = x.slot; stored = x.stored; held = relogged h x.held.last }

-- a shard that no header has
abbrev pub no_held_row : HeldRow
no_held_row = record {
  key = record { collection = record { bytes = []; len = 0 }; shard = 0 };
  slot = 0;
  stored = 0;
  held = record {
    epoch = record { 0 = 0 };
    metric = Euclidean;
    last = 0;
    role = Backup;
    own = false;
    replicas = [];
    holders = 0;
    peers = [];
    count = 0;
  };
}

abbrev pub with_held_rows : Node → List HeldRow → Node
with_held_rows n l = record { id = n.id; incarnation = n.incarnation; expiry = n.expiry; version = n.version; held = l; count = n.count }

-- the header with one shard as a call left it
abbrev pub with_shard : Node → ℕ → Held → Node
with_shard n at h = with_held_rows n (set n.held at (kept_as (get_or n.held at no_held_row) h))
