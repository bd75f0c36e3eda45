-- The headers of the two nodes: each lends a header, holds bytes, and is read as the node said here. Assumes nothing.
use Prim.Native.Nat.{ℕ, zero, suc, ◌<◌}
use mathlib.Core.Path.{◌≡◌, refl}
use mathlib.Core.Bool.{Bool, true, false}
use mathlib.Core.List.{List, [], ◌∷◌, ◌++◌}
use lib.ListN.{get_or, replicate}
use Rattle.spec.specs.Layout.Format.{Bytes}
use Rattle.spec.specs.declared.Peer.{Peer}
use Rattle.spec.specs.declared.Replica.{Replica}
use Rattle.spec.specs.declared.Metric.TheVariants.{Euclidean}
use Rattle.spec.specs.declared.Role.TheVariants.{Backup, Primary}
use Rattle.spec_run.proofs.Cases.Opened.{opened}
use Rattle.thm_run.proofs.Simulation.Client.{are_bytes}
use Rattle.node_shard.specs.declared.Held.{Held}
use Rattle.std.specs.Prelude.{Option}
use Rattle.std.specs.Prelude.{None, Some}
use Rattle.node_header.specs.declared.HeldRow.{HeldRow}
use Rattle.node_header.specs.declared.Node.{Node}
use Rattle.image_parts.specs.Shape as shape
use Rattle.image_parts.specs.Parts as parts
use Rattle.image_header_row.specs.Rows as rows
use Rattle.image_header.specs.Image as image
use Rattle.image_header.specs.Image.{node_at, header_lent}
use Rattle.calls_header.specs.Fresh.{fresh_node}
use Rattle.thm_one_node.proofs.Zeros.{zeros-bytes}
use Rattle.thm_one_node.proofs.Headers.{node, key}
use Rattle.thm_two_nodes.specs.Images.{free, new_second, first_row, first, second_row, second, shown, leased, written, aligned, acked, shown_second, adopted, holding}

-- ---- what they are read as

abbrev eight : List Replica
eight = record { node = node 1; incarnation = 4 } ∷ record { node = node 2; incarnation = 4 } ∷ replicate 6 parts.no_replica

-- what node 1 knows of node 2
abbrev pub row : (acked : ℕ) → (aligned : Bool) → Peer
row acked aligned = record {
  node = node 2;
  acked = record { 0 = acked };
  aligned = aligned;
  behind = false;
  since = 0;
  proposing = false;
  member = true;
}

abbrev pub leading : (last : ℕ) → Peer → Held
leading last p = record {
  epoch = record { 0 = 1 };
  metric = Euclidean;
  last = last;
  role = Primary (record { 0 = 1 }) (record { 0 = 0 });
  own = true;
  replicas = eight;
  holders = 2;
  peers = p ∷ replicate 31 rows.no_peer;
  count = 1;
}

abbrev pub following : (epoch last : ℕ) → Held
following epoch last = record {
  epoch = record { 0 = epoch };
  metric = Euclidean;
  last = last;
  role = Backup;
  own = false;
  replicas = eight;
  holders = 2;
  peers = replicate 32 rows.no_peer;
  count = 0;
}

-- the shard with its rows, and a node with it, in the slot 0
abbrev pub kept : (stored : ℕ) → Held → HeldRow
kept stored h = record { key = key; slot = 0; stored = stored; held = h }

abbrev with : (id : ℕ) → Option ℕ → HeldRow → Node
with id e x = record {
  id = node id;
  incarnation = 4;
  expiry = e;
  version = 3;
  held = x ∷ replicate 7 image.no_held_row;
  count = 1;
}

abbrev pub leads : Option ℕ → (stored last acked : ℕ) → Bool → Node
leads e stored last acked aligned = with 1 e (kept stored (leading last (row acked aligned)))

abbrev pub follows : (epoch stored last : ℕ) → Node
follows epoch stored last = with 2 None (kept stored (following epoch last))

pub read-new : node_at new_second ≡ fresh_node 2 4
unfolding new_second node_at image.no_node shape.rows_at
read-new = refl

pub read-shown : node_at shown ≡ leads None 0 0 0 false
unfolding opened first node_at shape.rows_at rows.held_row_at
read-shown = refl

pub read-leased : node_at leased ≡ leads (Some 100) 0 0 0 false
unfolding opened first node_at shape.rows_at rows.held_row_at
read-leased = refl

pub read-written : node_at written ≡ leads (Some 100) 1 1 0 false
unfolding opened first node_at shape.rows_at rows.held_row_at
read-written = refl

pub read-aligned : node_at aligned ≡ leads (Some 100) 1 1 0 true
unfolding opened first node_at shape.rows_at rows.held_row_at
read-aligned = refl

pub read-acked : node_at acked ≡ leads (Some 100) 1 1 1 true
unfolding opened first node_at shape.rows_at rows.held_row_at
read-acked = refl

pub read-second : node_at shown_second ≡ follows 0 0 0
unfolding opened second node_at shape.rows_at rows.held_row_at
read-second = refl

pub read-adopted : node_at adopted ≡ follows 1 0 0
unfolding opened second node_at shape.rows_at rows.held_row_at
read-adopted = refl

pub read-holding : node_at holding ≡ follows 1 1 1
unfolding opened second node_at shape.rows_at rows.held_row_at
read-holding = refl

-- the new one lends a header; the others by what was written (Put)
pub lent-new : header_lent new_second ≡ true
unfolding opened new_second free header_lent image.codes_listed image.shard_codes
lent-new = refl

-- ---- each holds bytes: its row does, and what is free is zeros

free_bytes : Bytes free
unfolding free
free_bytes = zeros-bytes 8960

with-free : (l : List ℕ) → Bytes l → (i : ℕ) → get_or (l ++ free) i 0 < 256
with-free [] b i = free_bytes i
with-free (x ∷ l) b zero = b 0
with-free (x ∷ l) b (suc i) = with-free l (λ j. b (suc j)) i

pub bytes-shown : Bytes shown
unfolding opened first
bytes-shown = with-free (first_row 0 0 0 0 0 8) (are_bytes (first_row 0 0 0 0 0 8) refl)

pub bytes-leased : Bytes leased
unfolding opened first
bytes-leased = with-free (first_row 1 100 0 0 0 8) (are_bytes (first_row 1 100 0 0 0 8) refl)

pub bytes-written : Bytes written
unfolding opened first
bytes-written = with-free (first_row 1 100 1 1 0 8) (are_bytes (first_row 1 100 1 1 0 8) refl)

pub bytes-aligned : Bytes aligned
unfolding opened first
bytes-aligned = with-free (first_row 1 100 1 1 0 9) (are_bytes (first_row 1 100 1 1 0 9) refl)

pub bytes-acked : Bytes acked
unfolding opened first
bytes-acked = with-free (first_row 1 100 1 1 1 9) (are_bytes (first_row 1 100 1 1 1 9) refl)

pub bytes-second : Bytes shown_second
unfolding opened second
bytes-second = with-free (second_row 0 0 0) (are_bytes (second_row 0 0 0) refl)

pub bytes-adopted : Bytes adopted
unfolding opened second
bytes-adopted = with-free (second_row 1 0 0) (are_bytes (second_row 1 0 0) refl)

pub bytes-holding : Bytes holding
unfolding opened second
bytes-holding = with-free (second_row 1 1 1) (are_bytes (second_row 1 1 1) refl)
