-- The headers of node 1: each lends a header, holds bytes, and is read as the node said here. Assumes nothing.
use Prim.Native.Nat.{ℕ}
use native.Mathlib.Omega.{arith}
use mathlib.Core.Path.{◌≡◌, refl}
use mathlib.Core.Bool.{true}
use mathlib.Core.List.{[], ◌∷◌}
use lib.ListN.{length, replicate}
use Rattle.spec.specs.Log.{Log}
use Rattle.spec.specs.Layout.Format.{Bytes}
use Rattle.spec.specs.declared.DataNodeId.{DataNodeId}
use Rattle.spec.specs.declared.Metric.TheVariants.{Euclidean}
use Rattle.spec.specs.declared.Role.TheVariants.{Primary}
use Rattle.spec_run.proofs.Cases.Opened.{opened}
use Rattle.thm_run.proofs.Simulation.Client.{are_bytes}
use Rattle.map_tables.specs.declared.Name.{Name}
use Rattle.map_tables.specs.declared.ShardKey.{ShardKey}
use Rattle.node_shard.specs.declared.Held.{Held}
use Rattle.std.specs.Prelude.{Option}
use Rattle.std.specs.Prelude.{None, Some}
use Rattle.node_header.specs.declared.HeldRow.{HeldRow}
use Rattle.node_header.specs.declared.Node.{Node}
use Rattle.image_parts.specs.Shape as shape
use Rattle.image_parts.specs.Parts as parts
use Rattle.image_header_row.specs.Rows as rows
use Rattle.image_header.specs.Image as image
use Rattle.image_header.specs.Image.{node_at, header_lent}
use Rattle.calls_header.specs.Fresh.{fresh_node}
use Rattle.thm_one_node.specs.Images.{unused, new, header, shown, leased, written}
use Rattle.thm_one_node.proofs.Zeros.{zeros-bytes}

-- ---- what they are read as

abbrev pub node : ℕ → DataNodeId
node n = record { 0 = n }

abbrev pub name : Name
name = record { bytes = 0x73 ∷ replicate 31 0; len = 1 }

abbrev pub key : ShardKey
key = record { collection = name; shard = 0 }

-- the shard that node 1 leads alone, with so many entries
abbrev pub solo : (last : ℕ) → Held
solo last = record {
  epoch = record { 0 = 1 };
  metric = Euclidean;
  last = last;
  role = Primary (record { 0 = 1 }) (record { 0 = 0 });
  own = true;
  replicas = record { node = node 1; incarnation = 4 } ∷ replicate 7 parts.no_replica;
  holders = 1;
  peers = replicate 32 rows.no_peer;
  count = 0;
}

abbrev pub kept : (stored last : ℕ) → HeldRow
kept stored last = record { key = key; slot = 0; stored = stored; held = solo last }

abbrev pub leads : Option ℕ → (stored last : ℕ) → Node
leads e stored last = record {
  id = node 1;
  incarnation = 4;
  expiry = e;
  version = 1;
  held = kept stored last ∷ replicate 7 image.no_held_row;
  count = 1;
}

pub read-new : node_at new ≡ fresh_node 1 4
unfolding new node_at image.no_node shape.rows_at
read-new = refl

pub read-shown : node_at shown ≡ leads None 0 0
unfolding header node_at shape.rows_at rows.held_row_at
read-shown = refl

pub read-leased : node_at leased ≡ leads (Some 100) 0 0
unfolding header node_at shape.rows_at rows.held_row_at
read-leased = refl

pub read-written : node_at written ≡ leads (Some 100) 1 1
unfolding header node_at shape.rows_at rows.held_row_at
read-written = refl

-- ---- each lends a header

pub lent-new : header_lent new ≡ true
unfolding opened new header_lent image.codes_listed image.shard_codes
lent-new = refl

pub lent-shown : header_lent shown ≡ true
unfolding opened header header_lent image.codes_listed image.shard_codes
lent-shown = refl

pub lent-leased : header_lent leased ≡ true
unfolding opened header header_lent image.codes_listed image.shard_codes
lent-leased = refl

pub lent_written : header_lent written ≡ true
unfolding opened header header_lent image.codes_listed image.shard_codes
lent_written = refl

-- ---- each holds bytes

pub bytes-unused : Bytes unused
unfolding unused
bytes-unused = zeros-bytes 10288

pub bytes-shown : Bytes shown
unfolding opened header
bytes-shown = are_bytes shown refl

pub bytes-leased : Bytes leased
unfolding opened header
bytes-leased = are_bytes leased refl

pub bytes-written : Bytes written
unfolding opened header
bytes-written = are_bytes written refl

-- ---- a log of no entries

pub nil : (l : Log) → length l ≡ 0 → l ≡ []
nil [] e = refl
nil (x ∷ xs) e = absurd (omega arith)
