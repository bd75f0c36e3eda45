-- What the image of a header is after a write: every byte of it a function of the specification's node and of the slots of its shards; and what it
-- is read as. Definitions only.
use Rattle.std.specs.Prelude.{ℕ, ◌≤◌, ◌≡◌, Bool, true, List, [], ◌∷◌, ◌++◌, map, leb, length}
use Rattle.std.proofs.Math.Option.{Option, none, some}
use Rattle.std.proofs.lemmas.List.Edits.{sets}
use Rattle.spec.specs.Limits.{max_entries}
use Rattle.spec.specs.Layout.Format.{concat_map}
use Rattle.spec.specs.Node.Held as held
use Rattle.node_header.specs.View.{Stores, used, view_node}
use Rattle.node_header.specs.Formed.{formed_node}
use Rattle.node_header.specs.Slots.{slots_of}
use Rattle.node_header.specs.declared.HeldRow.{HeldRow}
use Rattle.node_header.specs.declared.Node.{Node}
use Rattle.image_parts.specs.Shape.{in_use}
use Rattle.image_parts.specs.Codes.{epoch_of}
use Rattle.image_parts.specs.Parts.{no_replica}
use Rattle.image_parts.specs.Canon.{padded, image_key}
use Rattle.image_header_row.specs.Rows.{no_peer, held_row_bytes}
use Rattle.image_header_row.specs.Tidy.{tidy_held_row}
use Rattle.image_header.specs.Image.{head_of, header_lent, node_at, header_written}

-- families of stores whose tables have as many vectors as the header counts
abbrev pub Counted : Stores → Type 0
Counted s = (slot last stored : ℕ) → length (s.vectors slot last stored) ≡ stored

-- no more vectors than a table holds
abbrev pub table_fits : held.Held → Bool
table_fits h = leb (length h.replica.vectors) max_entries

-- ---- the image of a node of the specification, whose shards have these slots

-- a shard as the row that says it, in the store of its slot
abbrev pub image_held_row : held.Held → (slot : ℕ) → HeldRow
image_held_row h slot = record {
  key = image_key h.key;
  slot = slot;
  stored = length h.replica.vectors;
  held = record {
    epoch = epoch_of h.replica.epoch;
    metric = h.replica.metric;
    last = length h.replica.log;
    role = h.role;
    own = h.own;
    replicas = padded 8 no_replica h.holders;
    holders = length h.holders;
    peers = padded 32 no_peer h.peers;
    count = length h.peers;
  };
}

-- each shard with its slot
abbrev pub image_rows : List held.Held → (slots : List ℕ) → List HeldRow
image_rows [] slots = []
image_rows (h ∷ hs) [] = []
image_rows (h ∷ hs) (slot ∷ slots) = image_held_row h slot ∷ image_rows hs slots

-- a lease's end: 0 never, 1 at a time
abbrev pub lease_code : Option ℕ → ℕ
lease_code none = 0
lease_code (some t) = 1

abbrev pub lease_time : Option ℕ → ℕ
lease_time none = 0
lease_time (some t) = t

-- 48 bytes, then the rows of the shards held
unfoldable pub header_image : held.Node → (slots : List ℕ) → List ℕ
header_image n slots =
    head_of n.id n.incarnation n.version (length n.held) (lease_code n.expiry) (lease_time n.expiry)
    ++ concat_map held_row_bytes (image_rows n.held slots)

-- ---- what a write promises

-- the image s became t, in which the header n stands: its bytes, that it lends a header, and that this is read as n, each shard in its slot,
-- and is well formed if n is; its rows are those of n in the canonical form
pub record HeaderBecomes (s t : List ℕ) (n : Node) : Type 0 where
  pub bytes : (st : Stores) → Counted st → t ≡ sets s 0 (header_image (view_node st n) (slots_of n))
  pub lent : header_lent t ≡ true
  pub read : (st : Stores) → view_node st (node_at t) ≡ view_node st n
  pub slots_are : slots_of (node_at t) ≡ slots_of n
  pub formed : formed_node n ≡ true → formed_node (node_at t) ≡ true
  pub count : (node_at t).count ≡ in_use 8 n.count
  pub rows : used (node_at t) ≡ map tidy_held_row (used n)

-- a buffer that is shorter than an image stays as it was
pub record HeaderWrites (s t : List ℕ) (n : Node) : Type 0 where
  pub image : t ≡ header_written s n
  pub becomes : 10288 ≤ length s → HeaderBecomes s t n
