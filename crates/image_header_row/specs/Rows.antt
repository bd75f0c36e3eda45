-- The rows of a header's image (docs/IMAGES.md): for each the shape of its fields in their order, what a value of the shape is read as
-- (`..Of`), and the value that a row is written as (`..Value`). Definitions only.
use Rattle.std.specs.Prelude.{ℕ, ◌+◌, ◌/◌, ◌%◌, Bool, true, false, cond, List, map, eqb}
use Rattle.spec.specs.Layout.Parts.{metric_of, metric_code}
use Rattle.spec.specs.declared.Offset.{Offset}
use Rattle.spec.specs.declared.Peer.{Peer}
use Rattle.spec.specs.declared.Role.{Role}
use Rattle.spec.specs.declared.Role.TheVariants.{Backup, Primary}
use Rattle.std.specs.Prelude.{Option}
use Rattle.std.specs.Prelude.{None, Some}
use Rattle.node_shard.specs.declared.Held.{Held}
use Rattle.node_header.specs.declared.HeldRow.{HeldRow}
use Rattle.image_parts.specs.Shape.{Shape, Value, rep, ◌▸◌, u32, u64, value, encode}
use Rattle.image_parts.specs.Parts.{key_f, key_of, key_value, replica_f, replica_read, replica_value}
use Rattle.image_parts.specs.Codes.{id_of, epoch_of, flag_of, flag_code}

abbrev pub offset_of : ℕ → Offset
offset_of n = record { 0 = n }

-- ---- a peer: its four flags are bits of one number

abbrev pub bit_of : ℕ → Bool
bit_of n = eqb (n % 2) 1

abbrev pub weigh : Bool → ℕ → ℕ
weigh false w = 0
weigh true w = w

-- 1 aligned, 2 behind, 4 proposing, 8 member
abbrev pub peer_flags : Peer → ℕ
peer_flags p = weigh p.aligned 1 + weigh p.behind 2 + weigh p.proposing 4 + weigh p.member 8

-- node, acked, since, flags, 0
abbrev pub peer_f : Shape
peer_f = u64 ▸ u64 ▸ u64 ▸ u32 ▸ u32

abbrev pub peer_of : Value peer_f → Peer
peer_of ((((node, acked), since), flags), unused) = record {
  node = id_of node;
  acked = offset_of acked;
  aligned = bit_of flags;
  behind = bit_of (flags / 2);
  since = since;
  proposing = bit_of (flags / 4);
  member = bit_of (flags / 8);
}

abbrev pub peer_value : Peer → Value peer_f
peer_value p = ((((p.node.0, p.acked.0), p.since), peer_flags p), 0)

-- a peer that says nothing: zeros
abbrev pub no_peer : Peer
no_peer = record { node = id_of 0; acked = offset_of 0; aligned = false; behind = false; since = 0; proposing = false; member = false }

-- ---- a role: 0 backup, 1 primary, with its epoch and end offset

abbrev pub role_f : Shape
role_f = u32 ▸ u64 ▸ u64

abbrev pub role_of : Value role_f → Role
role_of v = cond (eqb v.0.0 0) Backup (Primary (epoch_of v.0.1) (offset_of v.1))

abbrev pub role_value : Role → Value role_f
role_value Backup = ((0, 0), 0)
role_value (Primary e o) = ((1, e.0), o.0)

-- ---- a held shard

-- epoch, last, how many replicas, how many peers, metric, own, 0, role, replicas, peers
abbrev pub numbers_f : Shape
numbers_f = u64 ▸ u64 ▸ u64 ▸ u64 ▸ u32 ▸ u32 ▸ u32

abbrev pub held_f : Shape
held_f = numbers_f ▸ role_f ▸ rep 8 replica_f ▸ rep 32 peer_f

abbrev pub held_of : Value held_f → Held
held_of (((((((((epoch, last), holders), count), metric), own), unused), role), replicas), peers) = record {
  epoch = epoch_of epoch;
  metric = metric_of metric;
  last = last;
  role = role_of role;
  own = flag_of own;
  replicas = map replica_read replicas;
  holders = holders;
  peers = map peer_of peers;
  count = count;
}

abbrev pub numbers_value : Held → Value numbers_f
numbers_value h = ((((((h.epoch.0, h.last), h.holders), h.count), metric_code h.metric), flag_code h.own), 0)

abbrev pub held_value : Held → Value held_f
held_value h = (((numbers_value h, role_value h.role), map replica_value h.replicas), map peer_value h.peers)

-- key, 0, slot, stored, the shard
abbrev pub held_row_f : Shape
held_row_f = key_f ▸ u32 ▸ u64 ▸ u64 ▸ held_f

abbrev pub held_row_of : Value held_row_f → HeldRow
held_row_of ((((key, unused), slot), stored), held) = record { key = key_of key; slot = slot; stored = stored; held = held_of held }

abbrev pub held_row_value : HeldRow → Value held_row_f
held_row_value x = ((((key_value x.key, 0), x.slot), x.stored), held_value x.held)

-- ---- a lease's end: 0 never, 1 at a time

abbrev pub expiry_of : ℕ → ℕ → Option ℕ
expiry_of code time = cond (eqb code 0) None (Some time)

abbrev pub expiry_code : Option ℕ → ℕ
expiry_code None = 0
expiry_code (Some t) = 1

abbrev pub expiry_time : Option ℕ → ℕ
expiry_time None = 0
expiry_time (Some t) = t

-- ---- the same at a position of an image, and as bytes

unfoldable pub peer_at : List ℕ → ℕ → Peer
peer_at s at = peer_of (value peer_f s at)

unfoldable pub peer_bytes : Peer → List ℕ
peer_bytes p = encode peer_f (peer_value p)

unfoldable pub peers_at : List ℕ → ℕ → List Peer
peers_at s at = map peer_of (value (rep 32 peer_f) s at)

unfoldable pub peers_bytes : List Peer → List ℕ
peers_bytes ps = encode (rep 32 peer_f) (map peer_value ps)

unfoldable pub role_at : List ℕ → ℕ → Role
role_at s at = role_of (value role_f s at)

unfoldable pub role_bytes : Role → List ℕ
role_bytes r = encode role_f (role_value r)

unfoldable pub numbers_bytes : Held → List ℕ
numbers_bytes h = encode numbers_f (numbers_value h)

unfoldable pub held_at : List ℕ → ℕ → Held
held_at s at = held_of (value held_f s at)

unfoldable pub held_bytes : Held → List ℕ
held_bytes h = encode held_f (held_value h)

unfoldable pub held_row_at : List ℕ → ℕ → HeldRow
held_row_at s at = held_row_of (value held_row_f s at)

unfoldable pub held_row_bytes : HeldRow → List ℕ
held_row_bytes x = encode held_row_f (held_row_value x)
