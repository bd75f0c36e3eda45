-- One row of a header changed where it stands. Definitions only.
use Rattle.std.specs.Prelude.{ℕ, ◌+◌, Bool, false, ◌≡◌, List, length, take, drop, set}
use Rattle.spec.specs.declared.Peer.{Peer}
use Rattle.spec.specs.declared.Role.{Role}
use Rattle.spec.specs.declared.Role.TheVariants.{Backup}
use Rattle.node_shard.specs.declared.Held.{Held}
use Rattle.node_shard.specs.View.{with_rows}
use Rattle.node_header.specs.declared.HeldRow.{HeldRow}
use Rattle.node_header.specs.View.{kept_as, relogged}
use Rattle.image_header_row.specs.Rows.{held_row_at}

-- all but `width` bytes from a position on are as they were
pub record Outside (s t : List ℕ) (at width : ℕ) : Type 0 where
  pub long : length t ≡ length s
  pub front : take at t ≡ take at s
  pub back : drop (at + width) t ≡ drop (at + width) s

-- the row at a position becomes x, and nothing else is changed
pub record RowBecomes (s t : List ℕ) (at : ℕ) (x : HeldRow) : Type 0 where
  pub outside : Outside s t at 1280
  pub row : held_row_at t at ≡ x

-- ---- a shard with one thing changed

abbrev pub held_with : Held → Role → (own : Bool) → (count : ℕ) → Held
held_with h role own count = record {
  epoch = h.epoch;
  metric = h.metric;
  last = h.last;
  role = role;
  own = own;
  replicas = h.replicas;
  holders = h.holders;
  peers = h.peers;
  count = count;
}

-- the row of one peer
abbrev pub peer_set : HeldRow → ℕ → Peer → HeldRow
peer_set x i q = kept_as x (with_rows x.held (set x.held.peers i q))

-- whether the node is in its own ack set
abbrev pub own_set : HeldRow → Bool → HeldRow
own_set x own = kept_as x (held_with x.held x.held.role own x.held.count)

abbrev pub role_set : HeldRow → Role → HeldRow
role_set x role = kept_as x (held_with x.held role x.held.own x.held.count)

-- how many peers
abbrev pub count_set : HeldRow → ℕ → HeldRow
count_set x count = kept_as x (held_with x.held x.held.role x.held.own count)

-- node.rs, step_down: the primary role left, with all that the record tracked
abbrev pub stepped_down : Held → Held
stepped_down h = held_with h Backup false 0

-- ---- a shard whose log was aligned with a new epoch's primary (serve, `Realigns`)

abbrev pub aligned_held : Held → (epoch last : ℕ) → Held
aligned_held h epoch last = record {
  epoch = record { 0 = epoch };
  metric = h.metric;
  last = last;
  role = Backup;
  own = false;
  replicas = h.replicas;
  holders = h.holders;
  peers = h.peers;
  count = 0;
}

-- .. with as many rows of its table
abbrev pub aligned_set : HeldRow → (epoch last stored : ℕ) → HeldRow
aligned_set x epoch last stored = record { key = x.key; slot = x.slot; stored = stored; held = aligned_held x.held epoch last }

abbrev pub stored_set : HeldRow → ℕ → HeldRow
stored_set x stored = record { key = x.key; slot = x.slot; stored = stored; held = x.held }

abbrev pub epoch_set : HeldRow → ℕ → HeldRow
epoch_set x epoch = record {
  key = x.key;
  slot = x.slot;
  stored = x.stored;
  held = record {
    epoch = record { 0 = epoch };
    metric = x.held.metric;
    last = x.held.last;
    role = x.held.role;
    own = x.held.own;
    replicas = x.held.replicas;
    holders = x.held.holders;
    peers = x.held.peers;
    count = x.held.count;
  };
}

abbrev pub last_set : HeldRow → ℕ → HeldRow
last_set x last = record { key = x.key; slot = x.slot; stored = x.stored; held = relogged x.held last }
