-- The lent state of a call that names a shard, as byte images (docs/IMAGES.md): a header, and the eight stores side by side. Which store
-- is picked by the key, what its bytes are read as, and what is written back of it. Definitions only.
use Rattle.std.specs.Prelude.{ℕ, ◌*◌, ◌≤◌, ◌<◌, min, ◌≡◌, Bool, true, cond, List, leb, ltb, length, get_or, replicate}
use Rattle.spec.specs.Lists.{◌and◌}
use Rattle.spec.specs.Limits.{max_entries, max_held, min_floats}
use Rattle.spec.specs.Keys.{Key}
use Rattle.spec.specs.Layout.Format.{Bytes, All}
use Rattle.spec.specs.Node.Wire.{float_of}
use Rattle.log_store.specs.View.{columns, log_of}
use Rattle.log_store.specs.Table.{rows_of}
use Rattle.log_store.specs.Store.{Sized, well_formed_store}
use Rattle.node_header.specs.declared.HeldRow.{HeldRow}
use Rattle.node_header.specs.declared.Node.{Node}
use Rattle.node_header.specs.View.{no_held_row}
use Rattle.node_lent.specs.Lend.{LentStore, lent_store, store_of, place_of}
use Rattle.image_header.specs.Image.{header_lent, node_at, header_written}
use Rattle.image_header.specs.Becomes.{HeaderBecomes}
use Rattle.image_store.specs.Image.{store_size, keys_in, places_in}
use Rattle.image_store.specs.Read.{columns_at, all_readable}
use Rattle.image_store.specs.Write.{log_put, rows_put, Fits, RowFits}
use Rattle.image_node.specs.declared.Picked.{Picked}

-- ---- one store among the eight

-- the bytes of eight stores
abbrev pub stores_size : ℕ
stores_size = 1392640

-- the columns that a store is read into, before it is: as fresh local arrays are
unfoldable pub no_lent_store : LentStore
no_lent_store =
    let zeros : List ℕ = replicate max_entries 0 in
    lent_store zeros zeros zeros zeros zeros (replicate min_floats (float_of 0)) zeros zeros

-- where the store of a held shard begins: its slot says, not its place in the header
abbrev pub begin_of : HeldRow → ℕ
begin_of x = x.slot * store_size

-- 'Who is turned down', 24, of the bytes alone: the slot is one of the eight, the entries that the header counts are in it, and every
-- pattern that they use is a float of the domain
unfoldable pub held_row_readable : List ℕ → HeldRow → Bool
held_row_readable s x = ltb x.slot max_held and (leb x.held.last max_entries and all_readable s (begin_of x) x.held.last)

-- the columns of its store
unfoldable pub lent_store_at : List ℕ → HeldRow → LentStore
lent_store_at s x = record {
  columns = columns_at s (begin_of x) x.held.last no_lent_store.columns.floats;
  keys = keys_in s (begin_of x);
  places = places_in s (begin_of x);
}

-- ---- that of a key

abbrev pub holds_key : Node → Key → Bool
holds_key n k = ltb (place_of n k) n.count

abbrev pub held_row_of : Node → Key → HeldRow
held_row_of n k = get_or n.held (place_of n k) no_held_row

abbrev pub base_of : Node → Key → ℕ
base_of n k = begin_of (held_row_of n k)

-- of a shard that is not held no store is read
abbrev pub readable : List ℕ → Node → Key → Bool
readable s n k = cond (holds_key n k) (held_row_readable s (held_row_of n k)) true

abbrev pub lent_store_in : List ℕ → Node → Key → LentStore
lent_store_in s n k = cond (holds_key n k) (lent_store_at s (held_row_of n k)) no_lent_store

-- 24 of the two buffers, before `node_lent`'s test of what they are read as
unfoldable pub lends_state : (header stores : List ℕ) → Key → Bool
lends_state h s k = header_lent h and (leb (node_at h).count max_held and (leb stores_size (length s) and readable s (node_at h) k))

-- ---- what picking promises: h and s the images of the header and of the stores, b the columns after

pub record Picks (h s : List ℕ) (k : Key) (b : LentStore) (r : Picked) : Type 0 where
  pub found : r.found ≡ lends_state h s k
  pub read : lends_state h s k ≡ true → r.node ≡ node_at h
  pub at : lends_state h s k ≡ true → r.at ≡ place_of (node_at h) k
  pub lent_store : lends_state h s k ≡ true → b ≡ lent_store_in s (node_at h) k
  -- where a store was read, what is read are bytes
  pub bytes : lends_state h s k ≡ true → holds_key (node_at h) k ≡ true → Bytes s

-- of one store
pub record HeldRowRead (s : List ℕ) (x : HeldRow) (b : LentStore) (r : Bool) : Type 0 where
  pub answer : r ≡ held_row_readable s x
  pub lent_store : r ≡ true → b ≡ lent_store_at s x
  pub bytes : r ≡ true → Bytes s

-- ---- what is written back, over the images that were read

-- a store of the shard x, which a call left as y with the columns b. A call cuts a log or appends to it: the entries below the lesser
-- length stand in the image already
unfoldable pub store_put : List ℕ → (x y : HeldRow) → LentStore → List ℕ
store_put s x y b =
    rows_put
    (log_put s (begin_of x) (min x.held.last y.held.last) (log_of b.columns y.held.last))
    (begin_of x) (rows_of b.keys b.places y.stored)

-- n the header before a call, p and b header and columns after it, `at` the place of the shard in n, or past its shards
abbrev pub stores_put : List ℕ → (n p : Node) → LentStore → ℕ → List ℕ
stores_put s n p b at = cond (ltb at n.count) (store_put s (get_or n.held at no_held_row) (get_or p.held at no_held_row) b) s

-- when a store may be written: it stands among the eight, and what is written passes the test of a store
pub record Writable (x y : HeldRow) (b : LentStore) : Type 0 where
  pub slot : x.slot < max_held
  pub sized : Sized (store_of b y)
  pub well : well_formed_store (store_of b y) ≡ true

-- .. and the images of a call
pub record Puttable (s : List ℕ) (n p : Node) (b : LentStore) (at : ℕ) : Type 0 where
  pub room : stores_size ≤ length s
  pub inside : ltb at n.count ≡ true → at < max_held
  pub shard : ltb at n.count ≡ true → Writable (get_or n.held at no_held_row) (get_or p.held at no_held_row) b

-- what was written of a store can be read again: each number fits its column
pub record StoreFits (y : HeldRow) (b : LentStore) : Type 0 where
  pub log : All Fits (log_of b.columns y.held.last)
  pub rows : All RowFits (rows_of b.keys b.places y.stored)

-- the stores t are s with that of the shard
pub record StorePuts (s t : List ℕ) (x y : HeldRow) (b : LentStore) : Type 0 where
  pub image : t ≡ store_put s x y b
  pub fits : StoreFits y b

pub record Puts (h h' s s' : List ℕ) (n p : Node) (b : LentStore) (at : ℕ) : Type 0 where
  pub header : h' ≡ header_written h p
  pub becomes : 10288 ≤ length h → HeaderBecomes h h' p
  pub stores : s' ≡ stores_put s n p b at
  pub fits : ltb at n.count ≡ true → StoreFits (get_or p.held at no_held_row) b
