-- A header's image (docs/IMAGES.md): 48 bytes, then 8 held shards of 1280 bytes, 10288 bytes in all. Only the shards in use are read and
-- written, and each is written in the canonical form. Definitions only.
use Rattle.std.specs.Prelude.{ℕ, zero, suc, ◌+◌, Bool, true, false, cond, List, ◌++◌, map, length, take, replicate, leb}
use Rattle.std.proofs.lemmas.List.Edits.{sets}
use Rattle.spec.specs.Lists.{◌and◌}
use Rattle.spec.specs.Layout.Format.{number_at, bytes_of, concat_map}
use Rattle.spec.specs.declared.Metric.TheVariants.{Euclidean}
use Rattle.spec.specs.declared.Role.TheVariants.{Backup}
use Rattle.std.specs.Prelude.{None}
use Rattle.node_header.specs.declared.HeldRow.{HeldRow}
use Rattle.node_header.specs.declared.Node.{Node}
use Rattle.image_header.specs.declared.Lent.{Lent}
use Rattle.image_parts.specs.Shape.{in_use, rows_at, codes_below}
use Rattle.image_parts.specs.Codes.{id_of, epoch_of}
use Rattle.image_parts.specs.Parts.{no_key, no_replica}
use Rattle.image_header_row.specs.Rows.{no_peer, expiry_of, expiry_code, expiry_time, held_row_at, held_row_bytes}
use Rattle.image_header_row.specs.Tidy.{tidy_held_row}

-- ---- rows that say nothing

unfoldable pub no_held_row : HeldRow
no_held_row = record {
  key = no_key;
  slot = 0;
  stored = 0;
  held = record {
    epoch = epoch_of 0;
    metric = Euclidean;
    last = 0;
    role = Backup;
    own = false;
    replicas = replicate 8 no_replica;
    holders = 0;
    peers = replicate 32 no_peer;
    count = 0;
  };
}

-- a header without shards
unfoldable pub no_node : Node
no_node = record { id = id_of 0; incarnation = 0; expiry = None; version = 0; held = replicate 8 no_held_row; count = 0 }

-- ---- what the bytes are read as

abbrev pub shards_at : List ℕ → List HeldRow
shards_at s = rows_at 8 (in_use 8 (number_at 8 s 24)) (held_row_at s) no_held_row 1280 48

unfoldable pub node_at : List ℕ → Node
node_at s = record {
  id = id_of (number_at 8 s 0);
  incarnation = number_at 8 s 8;
  expiry = expiry_of (number_at 4 s 36) (number_at 8 s 40);
  version = number_at 8 s 16;
  held = shards_at s;
  count = number_at 8 s 24;
}

-- the lease's code, and of each shard in use the codes of its metric, own and role
unfoldable pub shard_codes : List ℕ → Bool
shard_codes s =
    codes_below 2 4 s 1 36
    and (codes_below 2 1280 s (in_use 8 (number_at 8 s 24)) 144
    and (codes_below 2 1280 s (in_use 8 (number_at 8 s 24)) 148 and codes_below 2 1280 s (in_use 8 (number_at 8 s 24)) 156))

-- the flags of each peer in use, of n shards from a position on: no bit but the four that a peer has
abbrev pub flags_listed : List ℕ → (n at : ℕ) → Bool
flags_listed s zero at = true
flags_listed s (suc n) at = codes_below 16 32 s (in_use 32 (number_at 8 s (at + 88))) (at + 280) and flags_listed s n (at + 1280)

-- 'an unlisted code': every code and flag in use is listed
unfoldable pub codes_listed : List ℕ → Bool
codes_listed s = shard_codes s and flags_listed s (in_use 8 (number_at 8 s 24)) 48

-- a header is lent: the buffer holds an image, in which every code is listed
unfoldable pub header_lent : List ℕ → Bool
header_lent s = leb 10288 (length s) and codes_listed s

abbrev pub lent_header : List ℕ → Lent
lent_header s = record { found = header_lent s; node = cond (header_lent s) (node_at s) no_node }

-- ---- what a write makes of an image: the shards in use are stored, all other bytes stay

-- id, incarnation, version, how many shards, 0, the lease's code and end
abbrev pub head_of : (id incarnation version count code time : ℕ) → List ℕ
head_of id incarnation version count code time =
    (((((bytes_of 8 id ++ bytes_of 8 incarnation) ++ bytes_of 8 version) ++ bytes_of 8 count) ++ bytes_of 4 0) ++ bytes_of 4 code) ++ bytes_of 8 time

abbrev pub head_bytes : Node → List ℕ
head_bytes n = head_of n.id.0 n.incarnation n.version (in_use 8 n.count) (expiry_code n.expiry) (expiry_time n.expiry)

abbrev pub shards_bytes : Node → List ℕ
shards_bytes n = concat_map held_row_bytes (map tidy_held_row (take n.count n.held))

unfoldable pub header_put : List ℕ → Node → List ℕ
header_put s n = sets (sets s 0 (head_bytes n)) 48 (shards_bytes n)

-- a buffer that is shorter than an image stays as it was
unfoldable pub header_written : List ℕ → Node → List ℕ
header_written s n = cond (leb 10288 (length s)) (header_put s n) s
